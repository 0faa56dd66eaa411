-- positions: places, seats, gaps, cuts; `TextOrder` is for machines, `Cuts` for callers
pub mod Positions
-- places of events
pub mod Inside
mod Prelude
-- reading
pub mod Readings
-- runs: whole runs, call by call; `Ranges` and `Cuts` are for callers
pub mod Runs
-- waiting
pub mod ByteSets
pub mod Blocks
