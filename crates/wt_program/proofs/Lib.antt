pub mod Completeness
pub mod Streams
