-- Paragraphs and setext headings are read.
pub mod Calls
pub mod ChunkLinks
pub mod Ends
pub mod HeadingMarks
pub mod Lines
pub mod Looks
pub mod Reads
pub mod Rests
pub mod SetextReads
pub mod UnderlineReads
