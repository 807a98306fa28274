pub mod Entries
pub mod Keys
pub mod Marks
pub mod Filed
pub mod SupertypeChains
