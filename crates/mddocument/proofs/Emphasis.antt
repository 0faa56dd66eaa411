-- Links, images and emphasis: innermost spans of inline text account for each byte.
pub mod Bytewise
pub mod Follow
pub mod InlineAccounts
pub mod InlineReads
pub mod InlineRuns
pub mod InlineShapes
pub mod LinedHolds
pub mod LinkAccounts
pub mod Pairs
pub mod RunAtoms
pub mod Runs
pub mod Shapes
pub mod Tracked
pub mod WholeRuns
