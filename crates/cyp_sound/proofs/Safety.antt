-- No run of the program of an accepted derivation comes to a fault, and where it has ended its heap meets the postcondition.
pub mod CompanionGoals
pub mod RawPremises
pub mod PassedNames
pub mod CalledBody
pub mod EveryRule
pub mod Procedures
pub mod PassedProcedures
pub mod BodiesMeet
pub mod Rounds
