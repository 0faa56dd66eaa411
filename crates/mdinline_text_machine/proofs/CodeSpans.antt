-- Code spans, as the machine of texts reads them.
pub mod Bytes
pub mod Classes
pub mod Cuts
pub mod Cutting
pub mod Found
pub mod FoundParts
pub mod Items
pub mod Parts
pub mod Plays
pub mod Remembered
pub mod Seen
pub mod Short
pub mod Sizes
pub mod Ticks
pub mod Walks
