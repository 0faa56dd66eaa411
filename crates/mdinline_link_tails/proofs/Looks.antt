-- All tries for resources of a text are linear.
pub mod Behind
pub mod Compared
pub mod Enclosed
pub mod Gaps
pub mod Linear
pub mod Passed
pub mod Raw
pub mod Starts
pub mod Titles
