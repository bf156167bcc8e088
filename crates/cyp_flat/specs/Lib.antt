pub mod Candidates
pub mod ChunkRules
pub mod FlatRows
