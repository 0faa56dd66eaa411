-- edited list: by identities; what stays
pub mod Edited
-- map
pub mod Edits
-- links
pub mod Links
-- splicing
pub mod Shifts
-- walks
pub mod SpanWalks
pub mod SpanWalksInner
-- splicing
pub mod Spliced
-- store
pub mod Stored
-- edited list
pub mod Survivors
pub mod Woven
