-- calm
pub mod Calm
-- cases
pub mod Cases
-- lawful: the laws of a machine from the test of its table
pub mod CostNumbers
pub mod GrowingTexts
-- refusals
pub mod KeptByReading
-- knowledge
pub mod LinkShapes
-- looks
pub mod Looks
-- markers
pub mod Markers
-- numbers
pub mod Numbers
mod Prelude
-- rows
pub mod Rows
-- lawful
pub mod Tables
-- calm
pub mod Unlinked
-- paragraphs
pub mod ChunkEnters
pub mod Paragraphs
