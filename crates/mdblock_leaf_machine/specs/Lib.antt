-- bytes
pub mod ReadOver
