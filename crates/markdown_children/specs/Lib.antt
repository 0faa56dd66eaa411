-- subtokenizing
pub mod Children
pub mod Reads
pub mod SoFar
-- division
pub mod Parts
pub mod Tables
-- weaving
pub mod Written
-- readiness
pub mod Ready
pub mod StartTests
pub mod ByteStarts
pub mod ReadyTests
-- chains
pub mod Chains
-- laws
pub mod LawStatements
pub mod NextContent
-- the function: the list with children as a function
pub mod ChildrenOf
