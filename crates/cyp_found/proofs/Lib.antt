pub mod AllowedRows
pub mod Accepted
