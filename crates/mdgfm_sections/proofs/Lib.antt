-- checks: of events that stand further on, of both of two lists, and of parts
pub mod TasksFurther
pub mod TasksBoth
pub mod Tasks
-- held: prefixes of items stand in items, and text in some span, of a document
pub mod Items
pub mod Awaits
pub mod HeldMarks
pub mod HeldSkeleton
pub mod HeldBlocks
pub mod HeldItems
pub mod Unlinked
-- notes: labels of footnote definitions among events, of documents and of sections; and which of them decide
pub mod NotesLabels
pub mod NotesOfEvents
pub mod NotesOfSkeleton
pub mod NotesOfSections
pub mod Decide
-- laws
pub mod LinkNames
pub mod Parts
pub mod Documents
pub mod Sections
