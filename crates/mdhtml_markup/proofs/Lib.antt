-- addresses
pub mod AddressLemmas
-- safe HTML
pub mod Behind
-- safe HTML
pub mod Bools
-- safe HTML
pub mod CheckSteps
-- raw HTML
pub mod Filtered
-- content models
pub mod FlowSafe
-- ids: ids of footnotes and addresses of these are what safe HTML may have
pub mod Ids
-- safe HTML
pub mod Orders
-- text
pub mod Runs
-- pieces
pub mod SafeLemmas
-- text
pub mod ShownText
-- safe HTML
pub mod Tested
-- text
pub mod Texts
-- text
pub mod Waits
