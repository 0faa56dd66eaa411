-- tests
pub mod Found
mod Prelude
