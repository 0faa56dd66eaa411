-- Laws of readings.
pub mod Bounds
pub mod Ends
pub mod Formed
pub mod Plain
pub mod Promises
pub mod Renames
pub mod Reserves
pub mod Stays
pub mod Turns
