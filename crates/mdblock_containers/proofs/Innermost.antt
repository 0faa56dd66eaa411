-- The innermost spans of skeletons account for documents.
pub mod Parts
pub mod Spans
