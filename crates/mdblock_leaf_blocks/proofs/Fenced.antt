-- Fenced code is read.
pub mod Blocks
pub mod Checks
pub mod Closing
pub mod Code
pub mod First
pub mod Info
pub mod Lines
pub mod Looks
pub mod Opening
pub mod Steps
pub mod Whole
