pub mod Alts
pub mod Counts
pub mod SettingsValue
pub mod Stops
