-- tests
pub mod Found
