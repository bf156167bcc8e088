pub mod AskedSearches
pub mod ChainExamples
pub mod CorrectTexts
pub mod Examples
pub mod FitRead
pub mod FoundVerdicts
pub mod ListExamples
pub mod Outputs
pub mod Roots
mod RowsCells
mod RowsChain
mod RowsEdges
mod RowsLists
pub mod RowsShort
pub mod RunExamples
pub mod RunOutputs
pub mod Sending
pub mod WholeExamples
pub mod WholeOutputs
