pub mod BuiltKinds
pub mod EngineParts
pub mod OwnFits
pub mod ReadBack
pub mod RootedKinds
