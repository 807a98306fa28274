pub mod Json
pub mod DecodeValues
pub mod DecodeGroups
