-- definition
mod Examples
-- kept
pub mod Kept
pub mod Leaves
pub mod Plain
pub mod Spans
-- pieces
pub mod Written
-- fates
pub mod Laid
-- pieces
pub mod Made
-- fates
pub mod Steps
-- pieces
pub mod Cuts
-- fates
pub mod Reached
-- edits
pub mod LinkEdits
pub mod Marks
-- fates
pub mod Places
pub mod Read
-- costs
pub mod Costs
-- order
pub mod WithRuns
pub mod Between
pub mod Aligned
pub mod RunOrder
pub mod LinkOrder
pub mod LinkTight
pub mod LinkPlaces
