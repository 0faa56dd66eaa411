mod Prelude
-- choices: choices and filters of lists, with a function
pub mod Choices
-- rests
pub mod DocumentRests
pub mod Rests
pub mod SectionRows
pub mod Sections
-- moved
pub mod MovedBlocks
pub mod MovedItems
pub mod MovedLinks
pub mod MovedMarks
pub mod MovedReads
pub mod MovedRows
pub mod MovedSections
pub mod MovedSkeleton
pub mod MovedTwice
-- labels
pub mod DocumentAsked
pub mod DocumentLabels
-- seams
pub mod JoinedChunks
pub mod JoinedDocument
pub mod JoinedMarks
pub mod JoinedSections
pub mod NoUnderlines
pub mod SeamEnds
pub mod SeamLetters
pub mod SeamSeats
pub mod CutsJoined
pub mod SeamText
pub mod Seams
pub mod StretchStarts
-- both
pub mod Both
pub mod BothDocuments
pub mod BothTexts
-- without containers
pub mod WithoutContainers
-- skeletons: rows, letters, marks and skeletons of both parts
pub mod CellsLeft
pub mod CellsOfBoth
pub mod Chained
pub mod LetteredBoth
pub mod MarksOfBoth
pub mod SkeletonLinks
pub mod SkeletonOfBoth
-- blocks: leaf blocks of both parts, and where their data stands
pub mod BlocksAtRest
pub mod BlocksJoin
pub mod Events
pub mod FlowLinks
-- texts
pub mod ChildrenOfBoth
pub mod DataBeforeEnd
pub mod EventsLeft
pub mod Links
pub mod ReadTexts
pub mod TextLines
pub mod TextsOfBoth
-- bytes: virtual bytes, places and lines of both parts
pub mod DocumentBytes
pub mod DocumentParts
pub mod LineFronts
pub mod Shown
pub mod Virtual
-- examples: documents that are cut at a rest, and some that are not
mod DocumentExamples
mod Examples
