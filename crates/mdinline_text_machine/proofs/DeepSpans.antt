-- The innermost spans of texts, and of a list whose chains of text were read.
pub mod Atoms
pub mod Chains
pub mod Chunks
pub mod Places
pub mod Stretches
pub mod TextCuts
pub mod Untorn
