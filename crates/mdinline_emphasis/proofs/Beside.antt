pub mod Kept
pub mod Neighbours
