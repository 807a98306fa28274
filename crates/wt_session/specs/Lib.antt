pub mod Answered
pub mod HostTypes
pub mod Run
pub mod Session
pub mod World
