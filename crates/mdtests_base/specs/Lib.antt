-- read
pub mod Documents
