-- The proof of each function is in a folder of its own, by its module.
mod Prelude
-- laws
pub mod NoFurther
pub mod NoRefusals
pub mod Unfit
-- reading: each machine reads what the definition says; documents with their events written out
pub mod BlockReads
pub mod Innermost
pub mod LineExamples
pub mod LineReads
pub mod ParagraphExamples
-- looks
pub mod Breaks
pub mod Columns
-- steps: of rows, and what proofs of them cite
pub mod Mapped
pub mod RowSteps
