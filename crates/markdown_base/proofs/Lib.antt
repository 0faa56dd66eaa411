-- events: lists that are balanced, and names that are open
pub mod Balanced
-- slices
pub mod ByteLemmas
-- characters
pub mod CharLemmas
-- common lemmas: of lists, booleans, numbers, and of events in order, that std lacks: look here before you write one
pub mod Common
-- virtual text
pub mod Cuts
-- equality
pub mod EqualityLemmas
-- common lemmas
pub mod Facts
-- lines
pub mod LineLemmas
-- events
pub mod OpenEvents
-- common lemmas
pub mod Orders
-- places
pub mod PointAt
mod Prelude
-- virtual text
pub mod Scans
-- common lemmas
pub mod SeatCounts
-- virtual text
pub mod Seats
-- slices
pub mod SliceLemmas
