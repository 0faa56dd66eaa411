pub mod Bytes
pub mod Calls
pub mod Examples
pub mod Grammar
pub mod Looks
pub mod Places
pub mod Readings
pub mod Rows
