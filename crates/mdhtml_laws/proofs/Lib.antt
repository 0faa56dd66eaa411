-- laws
pub mod DocumentSections
pub mod Ended
pub mod FurtherBytes
pub mod FurtherHtml
pub mod FurtherSpans
pub mod FurtherText
pub mod Levels
pub mod Nested
pub mod NoteLevels
