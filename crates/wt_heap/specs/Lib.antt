pub mod Engines
pub mod Hierarchies
pub mod Matches
pub mod Parts
pub mod ToWasm
