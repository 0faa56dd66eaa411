-- Character references, as a machine reads them.
pub mod Alike
pub mod Bytes
pub mod Calls
pub mod Cuts
pub mod Events
pub mod Readings
pub mod Values
