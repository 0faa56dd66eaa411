mod Prelude
-- resources
pub mod Resources
-- looks
pub mod Looks
