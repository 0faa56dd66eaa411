-- names
pub mod Names
pub mod NamesOff
-- beginnings: what a line begins with; where events of leaf blocks stand
pub mod BlockPlaces
pub mod LineStarts
-- ranks: of headings
pub mod Ranks
-- emphasis: spans of emphasis are of pairs
pub mod EmphasisLaws
pub mod EmphasisSpans
pub mod PairedApart
-- references: where a document has a character reference, its events are its spans
pub mod ReferencePlaces
