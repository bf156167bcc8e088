pub mod CallTurns
