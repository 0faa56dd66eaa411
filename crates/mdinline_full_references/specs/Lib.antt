-- full references
pub mod FullReference
pub mod FullReferenceRows
-- looks
pub mod FullReferenceLooks
pub mod Laws
