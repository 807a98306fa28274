pub mod CoreTypes
pub mod FromWasm
