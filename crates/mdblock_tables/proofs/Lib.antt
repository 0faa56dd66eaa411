-- cells
pub mod CellLemmas
pub mod DelimiterFronts
pub mod DelimiterLemmas
-- pieces
pub mod PieceLemmas
pub mod RowLemmas
pub mod ContentLemmas
pub mod TaskLemmas
-- laws
mod Examples
