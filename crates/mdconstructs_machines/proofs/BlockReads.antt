-- Paragraphs, read line by line.
pub mod Accounts
pub mod Links
pub mod Reads
pub mod Whole
