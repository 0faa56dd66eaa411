-- grammar
pub mod Bytes
pub mod Found
pub mod Grammar
-- texts
pub mod Literals
pub mod Signs
-- events
pub mod Stretches
pub mod LiteralEvents
-- laws
pub mod Laws
pub mod Examples
