mod Prelude
-- names
pub mod ChildNames
pub mod Chosen
pub mod DocumentNames
pub mod FlowNames
pub mod Inside
pub mod ItemNames
pub mod LinesAlone
pub mod LinkNames
pub mod Named
pub mod PlainNames
pub mod RowNames
pub mod RunNames
pub mod SkeletonNames
pub mod SpanNames
pub mod TailSpans
-- walks: what holds of spans holds of links
pub mod LinkWalk
-- beginnings
pub mod BlockPlaces
mod Examples
pub mod HtmlStarts
pub mod LineStarts
-- ranks
pub mod DocumentRanks
pub mod FlowHeads
pub mod HeadChildren
pub mod Heads
pub mod Ranks
-- emphasis
pub mod Emphasis
pub mod EmphasisEvents
-- references
pub mod DocumentReferences
pub mod ReferenceChildren
mod ReferenceExamples
pub mod ReferenceItems
pub mod ReferenceKinds
pub mod ReferenceLinks
pub mod ReferenceSeats
pub mod ReferenceSpans
pub mod ReferenceSpelling
pub mod ReferencesStand
-- children: where chains are replaced by what they are read as, or brackets by links: which events there are
pub mod ChildEvents
pub mod LinkEvents
pub mod WholeSpans
