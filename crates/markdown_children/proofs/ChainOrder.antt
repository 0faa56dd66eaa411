-- Chains of a list of events.
pub mod Following
pub mod Forward
pub mod Spaced
pub mod Turns
