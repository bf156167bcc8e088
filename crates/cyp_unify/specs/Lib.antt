pub mod Frames
pub mod Listing
pub mod Matches
pub mod Meeting
pub mod Walking
