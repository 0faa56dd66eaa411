-- The proof of each function is in a folder of its own, by its module.
-- bytes
pub mod ByteSets
-- machine
pub mod Called
-- constructs
pub mod HeadingEdits
-- bytes
pub mod LineBytes
