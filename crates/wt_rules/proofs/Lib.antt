pub mod ModuleReferences
pub mod Referring
pub mod Functions
pub mod ShownRules
pub mod KeptRules
pub mod KnownHosts
pub mod Unchanging
