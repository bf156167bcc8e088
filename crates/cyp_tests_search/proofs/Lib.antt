mod Placing
