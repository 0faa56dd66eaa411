mod Prelude
-- full references
pub mod FullReferences
-- looks
pub mod Looks
