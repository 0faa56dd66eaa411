-- laws
pub mod Depth
pub mod DocumentSections
pub mod Moved
pub mod Parts
