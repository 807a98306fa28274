pub mod Consistent
pub mod KeptPart
pub mod Reached
pub mod Released
pub mod Releasing
pub mod RemovalChanges
pub mod Removing
pub mod SweptGone
