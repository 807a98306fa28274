pub mod Occurrences
pub mod Smallest
pub mod Kept
pub mod Assigning
