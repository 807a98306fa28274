pub mod ChainedMatches
pub mod EqualTypes
