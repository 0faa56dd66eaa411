-- pieces
pub mod Seams
pub mod PieceEvents
-- reading
pub mod NextPieces
