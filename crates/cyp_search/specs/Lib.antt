pub mod Expansions
pub mod Frontiers
pub mod PlainReports
pub mod Reports
pub mod Stages
