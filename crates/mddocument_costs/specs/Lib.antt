-- calls
pub mod Chains
pub mod Documents
pub mod Examples
