-- The chains of leaf blocks: each chunk stands directly before the one that it is linked to. Chains of content, which are read as leaf blocks.
mod Adjoined
pub mod Blocks
pub mod Contents
pub mod Ready
