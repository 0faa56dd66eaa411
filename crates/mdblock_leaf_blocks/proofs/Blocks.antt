-- Blank lines, thematic breaks, ATX headings and indented code are read.
pub mod BlankReads
pub mod BreakReads
pub mod CodeCalls
pub mod CodeLooks
pub mod CodeReads
pub mod HeadingCalls
pub mod HeadingParts
pub mod HeadingReads
