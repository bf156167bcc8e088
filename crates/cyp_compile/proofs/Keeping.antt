-- The program of an accepted derivation keeps the rules of variables, numbers of arguments and names.
pub mod OldProgram
pub mod NamesBound
pub mod RuleFits
pub mod Callees
pub mod BodiesFit
pub mod ProceduresFit
pub mod NamesDiffer
pub mod Whole
