pub mod ClauseTurns
pub mod OpenTurns
