pub mod Free
pub mod Heap
