-- Edits of a list of events: how they are kept, what they mean, and how they are made.
pub mod Entries
pub mod FinalPlaces
pub mod Passes
pub mod Pools
pub mod Puts
pub mod Shifts
pub mod Splices
pub mod Survivors
pub mod Turns
