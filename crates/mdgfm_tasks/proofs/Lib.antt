-- checks
pub mod Covers
-- events
pub mod Steps
pub mod Loops
pub mod Pushes
-- laws
pub mod Unchanged
pub mod Balance
pub mod Names
pub mod Forward
pub mod Few
pub mod First
pub mod Examples
