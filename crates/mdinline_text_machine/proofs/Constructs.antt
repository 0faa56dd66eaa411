-- Machines that are lists of constructs: what is read, once for all lists.
pub mod Apart
pub mod Listed
pub mod Marks
