-- definition: containers without states: what goes on and begins, the skeleton, its blocks; loose lists; letters
pub mod Blocks
pub mod Letters
pub mod Lists
pub mod Prefixes
pub mod Rows
pub mod Skeleton
-- rows
pub mod Over
pub mod Views
-- ahead
pub mod Ahead
-- writing
pub mod Chunks
pub mod Frames
pub mod PlaceEvents
pub mod SeatPlaces
pub mod Stood
-- lists
pub mod ListExamples
pub mod ListSeen
pub mod ListShapes
pub mod ListWalks
-- letters
pub mod Examples
pub mod SkeletonLaws
-- prefixes
pub mod Written
-- parts
pub mod Parts
pub mod Spans
pub mod Stretches
-- costs: turns of loops: the columns of a line pay for it
pub mod Costs
-- skeleton
pub mod Rest
-- whole skeletons: they are well formed, and their chains can be read
pub mod SkeletonSpans
