-- inline text
pub mod AltFacts
-- laws
pub mod Both
-- tables
pub mod EmptyCells
-- the walk
pub mod Entered
pub mod Finished
-- laws
pub mod Flow
-- HTML
pub mod Fresh
-- blocks
pub mod LastLines
pub mod ListFacts
-- laws
pub mod Linear
-- spans
pub mod Named
-- notes
pub mod FlowNotes
pub mod LastParagraphs
pub mod NoteEnds
pub mod NoteIds
pub mod NoteSections
pub mod Labels
pub mod NoteWalks
pub mod NotesWritten
pub mod Numbering
pub mod Numbers
pub mod SafeNotes
-- laws
pub mod Rooms
pub mod Safe
pub mod Short
pub mod ShortCalls
pub mod ShortShapes
-- spans
pub mod SpanFacts
-- HTML
pub mod Steps
-- links
pub mod Undefined
pub mod Unreferred
-- the walk
pub mod Walked
-- HTML
pub mod Written
