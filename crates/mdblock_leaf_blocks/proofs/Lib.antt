-- The proof of each function is in a folder of its own, by its module.
-- reading
pub mod Blocks
pub mod Fenced
pub mod Html
pub mod Lines
-- looks
pub mod Looks
-- shape
pub mod Marks
-- reading
pub mod Paragraphs
mod Prelude
-- looks
pub mod Tags
-- whole texts
pub mod Whole
