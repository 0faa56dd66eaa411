-- spans
pub mod Depth
-- laws
pub mod Laws
