-- Code spans as a machine reads them that remembers backtick strings.
pub mod Bytes
pub mod Cuts
pub mod Lines
pub mod Memory
pub mod Readings
pub mod Rows
pub mod Runs
