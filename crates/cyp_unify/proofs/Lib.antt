pub mod BoundVars
pub mod Cards
mod Examples
pub mod FewChunks
pub mod Finishing
pub mod Firsts
pub mod Framing
pub mod Growing
pub mod Listed
pub mod PairedPlaces
pub mod Pairings
pub mod WalkResults
pub mod WalkTurns
