-- spans
pub mod Spans
-- strings
pub mod Strings
-- targets
pub mod Defined
pub mod Targets
-- laws
pub mod Costs
pub mod Examples
