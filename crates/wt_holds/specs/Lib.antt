pub mod Counts
pub mod References
pub mod Marks
pub mod Kept
pub mod GivenBack
