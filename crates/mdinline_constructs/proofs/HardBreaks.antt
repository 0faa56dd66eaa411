-- Hard breaks: they are read, and what their events keep.
pub mod Bytes
pub mod Calls
pub mod Cuts
pub mod Escaped
