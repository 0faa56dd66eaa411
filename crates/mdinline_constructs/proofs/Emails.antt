-- Email autolinks, as a machine reads them.
pub mod Alike
pub mod Bytes
pub mod Calls
pub mod Cuts
pub mod Domains
pub mod Readings
