mod Prelude
-- arguments
pub mod OptionWords
-- printing
pub mod Blocks
pub mod Numbers
pub mod Points
