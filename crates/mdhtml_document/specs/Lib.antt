-- the walk: over events as the code makes it, its frames, and what is written behind bytes
pub mod Frames
-- HTML
pub mod Html
-- laws
pub mod HtmlExamples
pub mod HtmlLaws
-- spans
pub mod Names
pub mod Notes
pub mod Spans
-- inline text
pub mod Values
-- the walk
pub mod Walks
pub mod Written
