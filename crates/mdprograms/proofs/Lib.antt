-- What proofs cite from below
mod Prelude
