pub mod Filtered
pub mod Found
pub mod Mapped
pub mod Members
