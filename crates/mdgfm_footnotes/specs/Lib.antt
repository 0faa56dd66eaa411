-- calls
pub mod Calls
-- events
pub mod CallEvents
-- laws
pub mod Laws
pub mod Examples
