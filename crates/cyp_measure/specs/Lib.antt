pub mod Decrease
pub mod Levels
