pub mod Dealing
pub mod Fits
pub mod Parts
pub mod Questions
pub mod Sorts
