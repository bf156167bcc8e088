pub mod PrintMarks
pub mod PrintParts
pub mod PrintedTrees
pub mod Printing
