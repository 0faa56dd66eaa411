-- Runs of a tokenizer, from its start to its end.
pub mod Alike
pub mod Cuts
pub mod Movable
pub mod Moved
pub mod Onward
pub mod Ranges
pub mod Resolvers
pub mod TakingUp
pub mod Whole
pub mod Working
pub mod Later
pub mod Pushes
pub mod Outcomes
pub mod Over
pub mod Noted
