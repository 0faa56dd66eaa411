-- HTML blocks are read.
pub mod Blocks
pub mod Checks
pub mod Counts
pub mod Ends
pub mod First
pub mod Places
pub mod Raw
pub mod Reads
pub mod Steps
pub mod Whole
