-- Rows of a table.
pub mod Called
pub mod Calls
pub mod Laws
pub mod Misfits
