-- Laws about the machines.
pub mod Back
pub mod Deep
pub mod Fail
pub mod Lines
pub mod Peek
pub mod Save
pub mod Words
pub mod Wrap
