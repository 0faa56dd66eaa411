-- What machines read line by line.
pub mod Accounts
pub mod Back
pub mod Data
pub mod Deep
pub mod Lines
pub mod Onward
pub mod Peek
pub mod Reads
pub mod Rest
pub mod Rows
pub mod Save
pub mod Steps
