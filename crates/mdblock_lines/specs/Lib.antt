-- kinds
pub mod Views
-- containers
pub mod Containers
-- places
pub mod Breaks
pub mod Lines
