-- Laws about the machine of inline text.
pub mod Inlines
pub mod Registered
