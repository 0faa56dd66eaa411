-- grammar
pub mod ByteLemmas
pub mod Domains
pub mod Ends
pub mod Either
-- texts
pub mod TextSteps
pub mod NoSigns
-- events
pub mod EventSteps
pub mod EventLoops
-- laws
pub mod Balance
pub mod Unchanged
pub mod LiteralLaws
pub mod LiteralEnds
pub mod Fits
pub mod Order
pub mod OrderLaw
pub mod Whole
pub mod Tiles
pub mod Below
pub mod TileLaw
pub mod Few
pub mod Both
pub mod Further
pub mod Parts
pub mod Names
pub mod Examples
