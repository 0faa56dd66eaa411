-- sections
pub mod Divided
pub mod Edits
pub mod Fits
-- targets
pub mod Exits
pub mod Leading
pub mod Said
-- cuts
pub mod FirstRest
-- one section
pub mod Kept
pub mod Known
-- seams
pub mod Seams
pub mod Seen
pub mod Settled
-- trims
pub mod Trims
-- putting in
pub mod Asking
pub mod InBrackets
pub mod Put
pub mod Told
-- the list of sections
pub mod Listed
-- moved events
pub mod Finds
pub mod Fronts
pub mod Lookups
-- undefined
pub mod Undefined
-- positions
pub mod PositionParts
pub mod Positions
-- packed events
pub mod Packed
pub mod PackedEvents
-- laws
pub mod Cuts
