-- order: checks keep the order of place
pub mod CheckEnds
pub mod CheckOrder
-- laws
pub mod Whole
-- ahead: events go ahead in a document, each kind of them
pub mod DocumentAhead
pub mod Ended
pub mod GoAhead
pub mod LiteralsAhead
pub mod TasksAhead
pub mod CallsAhead
-- links: what stands in none
pub mod InLinks
pub mod LinksKept
