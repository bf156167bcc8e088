pub mod Cuts
pub mod Defaults
mod Examples
pub mod Found
pub mod Hits
pub mod Once
pub mod Parses
pub mod Told
pub mod Turns
pub mod Uses
pub mod Walks
