pub mod Unfold
pub mod Unfoldable
pub mod Parts
