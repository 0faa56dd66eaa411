-- laws
pub mod Paragraphs
