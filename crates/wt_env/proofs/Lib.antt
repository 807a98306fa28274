pub mod Parted
pub mod Erased
pub mod lists
