pub mod Safety
pub mod Time
pub mod Keeping
pub mod Examples
