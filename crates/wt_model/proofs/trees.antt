pub mod KnownTrees
pub mod OneTree
pub mod Trees
