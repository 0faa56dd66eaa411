-- awaited
pub mod Awaits
-- checks
pub mod Checks
-- events
pub mod TaskEvents
-- laws
pub mod Laws
pub mod Examples
