-- bytes
pub mod Beginnings
-- brackets
pub mod BracketRows
pub mod Brackets
-- reading
pub mod InlineChains
pub mod InlineEvents
-- machine
pub mod InlineRules
pub mod InlineTable
-- laws
pub mod LawStatements
pub mod Laws
-- registered: machines with one resolver that adds edits, which the first call registers
pub mod Registered
-- bytes
pub mod Over
-- runs
pub mod RunRows
-- strings
pub mod StringEvents
pub mod StringTable
