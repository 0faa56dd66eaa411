-- What proofs cite from below
mod Prelude
-- arguments
pub mod Words
