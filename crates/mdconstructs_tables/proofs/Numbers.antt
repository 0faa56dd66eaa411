-- The proofs that numbers are enough.
mod Arithmetic
mod Places
pub mod Enough
