-- Raw HTML between marks, as a machine reads it.
pub mod Ahead
pub mod Bytes
pub mod Fails
pub mod Found
pub mod Known
pub mod Marks
pub mod Picked
pub mod Places
pub mod Readings
pub mod Remembered
pub mod Rows
pub mod Strict
