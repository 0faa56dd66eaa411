-- items
pub mod Fronts
pub mod Listed
-- places
pub mod Places
pub mod PlainRanges
pub mod Ranges
mod Together
-- strings
pub mod Added
pub mod Kept
pub mod Laid
pub mod Nexts
mod Outside
pub mod Plain
pub mod Rewritten
pub mod Stretches
-- laws
pub mod Accounts
pub mod Cuts
mod Examples
pub mod Orders
