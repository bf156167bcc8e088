pub mod Asking
pub mod Dealing
pub mod Masks
pub mod Names
pub mod Saying
