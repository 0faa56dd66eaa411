-- Plain data, as the machine of texts reads it.
pub mod Classes
pub mod Items
pub mod Passed
pub mod Stretches
