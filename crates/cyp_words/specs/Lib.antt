pub mod Commands
pub mod Matches
pub mod Options
pub mod Ready
pub mod Rules
pub mod Words
