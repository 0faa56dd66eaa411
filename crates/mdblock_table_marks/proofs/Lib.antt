-- tables
pub mod LineLemmas
pub mod TableCuts
pub mod TableMoves
pub mod TableShapes
pub mod TableSpans
pub mod TableWriting
-- rows
pub mod PieceCounts
pub mod PieceLemmas
-- cells
pub mod CellData
pub mod CellEnds
pub mod CellGaps
pub mod CellLemmas
pub mod NoCellMarks
-- laws
mod Examples
