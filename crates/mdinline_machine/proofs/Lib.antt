-- data: text, white space and line endings between constructs, by bytes, and how they are read
mod BeforeSteps
-- brackets
pub mod BracketBytes
pub mod BracketCalls
pub mod BracketReads
-- calls: their number is linear
pub mod Budgets
pub mod CallsCounted
mod Counted
-- data
mod DataBytes
mod DataReads
-- brackets
pub mod EndReads
-- reading
mod FrontRuns
pub mod InlineApart
pub mod InlineBuilt
pub mod InlineCalls
pub mod InlineChains
pub mod InlineListed
pub mod InlineMemory
pub mod InlinePrices
pub mod InlineReads
-- calls
pub mod InlinesCounted
-- reading
mod JoinedItems
-- labels
mod LabelBytes
mod LabelReads
-- data
mod LineReads
-- bytes
mod ListedBytes
-- laws
pub mod Looks
-- bytes
mod OverBytes
-- data
mod PartReads
-- reading
mod PlainItems
mod Playing
mod Prelude
-- calls
mod Priced
-- registered
pub mod Resolved
-- data
mod Room
-- runs
pub mod RunBytes
mod RunReads
-- registered
pub mod Starts
-- strings
pub mod StringCalls
pub mod StringChains
pub mod StringReads
pub mod StringRuns
-- calls
pub mod TailLooks
-- brackets
mod TakenLast
mod Waiting
-- data
mod WhiteBytes
mod WhitePlays
mod WhiteReads
