mod Prelude
-- documents
pub mod FlowTexts
-- nested
pub mod InContainers
-- making
mod DeepEvents
mod FlowChains
mod FlowRuns
mod Formed
-- emphasis: inline text accounts for each byte, through emphasis
pub mod Emphasis
-- tiles
mod FlowTiles
pub mod Innermost
mod Tiled
-- ranges
mod RangeReads
-- walks, for laws: what holds of single marks holds of skeletons and leaf blocks
pub mod Walks
-- labels: those of a document's definitions
pub mod DefinedLabels
-- references: their bytes stand side by side in the document
pub mod ReferenceBytes
