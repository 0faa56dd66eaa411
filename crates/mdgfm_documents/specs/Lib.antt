-- documents
pub mod Documents
-- laws
pub mod Laws
pub mod LinkLaws
