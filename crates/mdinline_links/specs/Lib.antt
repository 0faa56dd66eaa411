-- order: links keep order, places and void spans
pub mod Between
-- costs: of brackets and pieces
pub mod Costs
-- kept: what links keep; no brackets
pub mod Kept
-- fates
pub mod Laid
-- definition
pub mod Laws
-- edits
pub mod LinkEdits
-- definition
pub mod Linked
-- order
pub mod Places
-- pieces
pub mod Pieces
