-- sinks
pub mod Taken
-- pieces
pub mod Seams
-- reading
pub mod Reached
