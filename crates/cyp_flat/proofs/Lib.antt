pub mod PlaceTurns
pub mod LeastTurns
pub mod SortedWith
pub mod Universals
