-- lines: with the open paragraph's text; parts, by where blank lines stand; parts, cut before and behind definitions
pub mod Rows
pub mod BlankLines
pub mod Sections
-- definition: the events of definitions; the skeleton with them, the labels and the letters; the blocks
pub mod Blocks
pub mod Definitions
pub mod Skeleton
-- held text
pub mod Held
-- rows
pub mod Known
pub mod Seen
-- sections
pub mod Sectioned
pub mod Within
-- marks
pub mod Costs
pub mod Cursor
-- skeleton
pub mod Labelled
-- laws
pub mod Examples
pub mod Laws
pub mod SkeletonLaws
