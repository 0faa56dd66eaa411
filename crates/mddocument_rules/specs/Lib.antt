-- standing
pub mod Standing
pub mod StandingLaws
pub mod TextLaws
pub mod BracketLaws
pub mod LinkLaws
pub mod DefinitionLaws
pub mod ReferenceLaws
pub mod SegmentLaws
-- lists: items of one list, and lists and quotes in a row
pub mod ListLaws
pub mod MarkerLaws
