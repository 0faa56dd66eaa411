-- What holds of the marks of leaf blocks.
pub mod BlocksFormed
pub mod ChunksJoin
pub mod Courses
pub mod Cuts
pub mod FullBlocks
pub mod LeafSpans
pub mod MarkAccounts
pub mod MarkChunks
pub mod MarkForms
pub mod MarkHolds
pub mod MarkLists
pub mod MarkRuns
pub mod MarkSpans
pub mod ToldBlocks
pub mod ToldEdits
