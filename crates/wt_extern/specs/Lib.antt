pub mod Entities
pub mod EntityRules
pub mod Memory
pub mod MemoryText
pub mod Parts
