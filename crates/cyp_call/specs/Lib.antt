pub mod CallRows
pub mod CallsOf
