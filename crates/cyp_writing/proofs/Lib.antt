pub mod PrintLines
pub mod PrintLists
pub mod PrintSteps
pub mod PrintTerms
pub mod PrintUnits
