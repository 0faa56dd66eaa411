-- Laws about the machines of the examples.
pub mod Fields
pub mod Headings
pub mod Labels
pub mod TextLines
