pub mod Causes
pub mod ConstantGlobals
pub mod KnownIndices
