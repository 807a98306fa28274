pub mod Edges
pub mod Marked
pub mod MarkedPlaces
pub mod Passes
pub mod RootMarks
pub mod Walked
