-- Documents without containers are read as their leaf blocks are.
pub mod CutOff
pub mod Leaves
pub mod Off
pub mod OneChild
pub mod PlainParts
pub mod SameTexts
pub mod Stretch
pub mod Whole
