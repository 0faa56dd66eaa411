-- Autolinks, as the machine of texts reads them.
pub mod Bytes
pub mod Calls
pub mod Classes
pub mod Cuts
pub mod Events
pub mod Places
pub mod Readings
