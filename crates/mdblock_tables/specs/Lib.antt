-- cells
pub mod Tables
-- pieces
pub mod Pieces
pub mod TablePieces
pub mod Tasks
-- laws
pub mod Laws
