-- choices
pub mod Choices
-- documents
pub mod Documents
pub mod FlowTextLaws
pub mod FlowTexts
-- nested
pub mod DocumentEvents
-- making
pub mod BlockChains
pub mod Runs
-- tiles
pub mod Tiles
-- ranges
pub mod ByteRanges
