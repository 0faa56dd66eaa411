-- Whole texts, item by item.
pub mod Counted
pub mod Leads
pub mod Apart
pub mod Built
pub mod Cutting
pub mod Ends
pub mod ItemsBuilt
pub mod LineEndings
pub mod NoFurther
pub mod Passing
pub mod Reads
pub mod Steps
pub mod Tight
pub mod WholePlaces
