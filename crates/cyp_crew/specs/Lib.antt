pub mod Board
pub mod Claims
pub mod Crews
pub mod Journals
pub mod Killed
pub mod Laws
pub mod Machine
pub mod Orderly
