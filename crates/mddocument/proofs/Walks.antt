pub mod BlockWalk
pub mod InnerTexts
pub mod MarksWalk
pub mod SkeletonWalk
pub mod TableWalk
