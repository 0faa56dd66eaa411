-- tables
pub mod Lines
pub mod TableCuts
pub mod TableMarks
-- rows
pub mod PiecePlaces
-- cells
pub mod Cells
pub mod CellPlaces
-- laws
pub mod Laws
