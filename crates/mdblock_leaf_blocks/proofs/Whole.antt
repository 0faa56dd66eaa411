-- Whole texts are read as their leaf blocks.
pub mod BlockSteps
pub mod FlowEnds
pub mod FlowReads
pub mod LineBlocks
pub mod LineBreaks
pub mod LineStarts
pub mod Told
pub mod UnderlineLines
pub mod WholeFlow
