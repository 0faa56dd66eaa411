-- Laws about the machine of texts.
pub mod Autolink
pub mod Classes
pub mod CodeSpan
pub mod Escape
pub mod Parts
pub mod Rules
pub mod Table
pub mod Writes
