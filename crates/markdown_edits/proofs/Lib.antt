-- the pass: makes the edited list; `Puts` is for callers
pub mod Edits
-- links
pub mod LinkEnds
-- walks
pub mod Mirrors
mod Prelude
-- laws
pub mod Results
-- walks
pub mod SpanRuns
