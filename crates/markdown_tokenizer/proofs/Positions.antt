-- Places of a document, and its virtual bytes.
pub mod Chains
pub mod Cursors
pub mod Cuts
pub mod Gaps
pub mod Lines
pub mod Moving
pub mod Order
pub mod Points
pub mod Prefixes
pub mod Quick
pub mod SeatLaws
pub mod Seats
pub mod Standing
pub mod TextOrder
