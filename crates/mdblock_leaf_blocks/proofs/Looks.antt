-- The look at a line finds what it is.
pub mod BreakLooks
pub mod ByteClasses
pub mod CountRoom
pub mod FenceLooks
pub mod FirstBytes
pub mod HeadingLooks
pub mod HeadingTexts
pub mod LineLooks
pub mod LineTests
pub mod LookSteps
pub mod SignLooks
pub mod UnderlineLooks
