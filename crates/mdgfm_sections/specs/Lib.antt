-- laws
pub mod LinkLaws
pub mod Parts
-- notes
pub mod Notes
