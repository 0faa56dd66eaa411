-- spans
pub mod Sizes
-- slices: what is left of one
pub mod Slices
-- places
pub mod Leaves
