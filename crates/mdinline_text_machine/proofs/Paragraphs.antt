-- Paragraphs, and the chains of text in them.
pub mod Blocks
pub mod ChainEvents
pub mod ChunkPairs
pub mod ChunksReady
pub mod DataEvents
pub mod Formed
pub mod Ready
pub mod Staying
pub mod Steps
pub mod Tight
