pub mod OpenPlaces
pub mod UnfoldRows
