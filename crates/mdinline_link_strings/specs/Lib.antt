-- items
pub mod Reached
-- strings
pub mod Costs
pub mod Laid
pub use Rattle.mdinline_constructs.specs.StringItems
pub mod Strings
-- laws
pub mod Laws
