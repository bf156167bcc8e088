pub mod Lanes
pub mod Parts
