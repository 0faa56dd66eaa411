-- Laws of machines, from the test of their tables.
pub mod Costs
pub mod Holding
pub mod Joined
pub mod Knowledge
pub mod Late
pub mod Laws
pub mod Lawful
pub mod NoFurther
pub mod Over
pub mod Plain
pub mod Plans
pub mod Prices
pub mod Refusals
pub mod Tests
pub mod Waiting
pub mod Twins
