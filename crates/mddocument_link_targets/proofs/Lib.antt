-- spans
pub mod SpanEnds
-- strings
pub mod Numerals
-- targets
pub mod Lookups
-- laws
pub mod CostLemmas
pub mod Examples
