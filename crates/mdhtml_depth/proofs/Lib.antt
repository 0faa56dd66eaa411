-- laws
pub mod Kept
