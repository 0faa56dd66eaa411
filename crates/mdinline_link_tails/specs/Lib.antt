-- resources
pub mod Resource
pub mod ResourceRows
-- looks
pub mod Laws
pub mod ResourceLooks
