-- html
pub mod Document
-- laws
pub mod Laws
