-- texts
pub mod Texts
-- headings
pub mod Headings
-- labels
pub mod Labels
-- text lines
pub mod TextLines
-- fields
pub mod Fields
-- kept
pub mod Kept
-- linter
pub mod Linter
pub mod Ranks
-- laws: the tables pass their tests; `call`
pub mod Laws
