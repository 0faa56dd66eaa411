-- calm: tests that rows keep what a machine knows; what all know that link no events
pub mod Calm
-- cases: rows by tests of classes, or of bytes
pub mod Cases
-- chunks
pub mod Chunks
-- looks: what a table reads without events, as a function of bytes
pub mod DeepLooks
-- rows: tables, their test, what holds at their states
pub mod Fitting
-- looks
pub mod Folds
-- late choices: choices that end in `Ok` late; two machines in one
pub mod Joined
-- knowledge: machines without links; machines that know more than their table
pub mod Knowledge
-- late choices
pub mod Late
-- knowledge
pub mod LinkShapes
-- looks
pub mod LookKnowledge
pub mod Looks
-- markers: a byte that is a span of its own
pub mod Markers
-- rows
pub mod Misfits
-- no further: tests that look no further than the byte that waits; bytes that states read over; a twin that counts its calls
pub mod NoFurther
-- numbers: costs in numbers, and a test that they are enough
pub mod Numbers
-- no further
pub mod Over
-- rows
pub mod RowInvariant
pub mod RowTest
pub mod Rows
-- knowledge
pub mod PlainTables
pub mod PlainWrites
pub mod Plans
-- looks
pub mod Quiet
-- refusals: machines that refuse no document
pub mod Refusals
-- looks
pub mod Stretches
-- no further
pub mod Twins
-- calm
pub mod Unlinked
-- shared tables: words of the tables; reading data; the look at a thematic break
pub mod Breaks
pub mod DataRows
-- paragraphs: the machine of paragraphs, its knowledge and its laws
pub mod Paragraphs
-- shared tables
pub mod Tables
