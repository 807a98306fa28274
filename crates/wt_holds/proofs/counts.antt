pub mod Times
pub mod Cascade
pub mod Popped
pub mod Rows
pub mod Falls
pub mod Told
pub mod Emptied
pub mod Freed
