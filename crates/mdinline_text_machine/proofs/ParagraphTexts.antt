-- Paragraphs with their texts read are as the definition without chains says.
pub mod Blocks
pub mod Every
pub mod Lines
pub mod MarksAt
pub mod Orders
pub mod Rows
pub mod Whole
