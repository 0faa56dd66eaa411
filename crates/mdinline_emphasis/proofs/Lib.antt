-- classes
mod AsciiClasses
-- pairs
pub mod Balance
-- neighbours
pub mod Beside
-- pairs
mod Bottoms
-- classes
mod Chars
mod CharsFound
mod CodeTables
-- pairs
mod Costs
pub mod Ends
mod InTurn
-- pairs
pub mod Markers
-- edits
pub mod PairsKeep
mod Prelude
-- classes
mod Ranges
-- edits
pub mod RunEdits
pub mod RunPlaces
-- runs
pub mod RunTexts
mod RunsFrom
-- pairs
mod Searches
mod Stands
mod Steps
mod Struck
mod StruckExamples
