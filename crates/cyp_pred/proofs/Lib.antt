pub mod Bound
pub mod Entries
pub mod LowNumbers
pub mod Ready
pub mod Tagged
mod Examples
