-- The law used at whole derivations, its premises met by computation.
pub mod Lists
pub mod Dispose
pub mod Run
pub mod Clear
