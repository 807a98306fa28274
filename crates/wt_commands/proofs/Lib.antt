pub mod DecodedCommands
pub mod DecodedItems
pub mod DecodedModules
pub mod Decoding
pub mod ItemCount
pub mod KeptCommands
pub mod Members
pub mod TokenCount
