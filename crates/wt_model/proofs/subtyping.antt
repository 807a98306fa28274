pub mod NamedIndices
pub mod ShownTypes
pub mod TypeMaps
