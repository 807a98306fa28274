pub mod Commands
pub mod Decode
pub mod DecodeEngine
pub mod DecodeErrorText
pub mod DecodeHost
pub mod ItemCount
