pub mod Agreement
pub mod Applied
pub mod Bounds
pub mod CellCounts
mod Examples
pub mod Guards
pub mod Heights
pub mod Listings
pub mod Order
pub mod PrefixTuples
pub mod SameChunks
pub mod Short
pub mod Unions
