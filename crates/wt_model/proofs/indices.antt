pub mod Below
pub mod FreeIndices
pub mod FreshIndices
pub mod Located
pub mod Places
pub mod Rising
pub mod ShownPlaces
pub mod TakenIndices
