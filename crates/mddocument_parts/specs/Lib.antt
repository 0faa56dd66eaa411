-- rests
pub mod DocumentRests
pub mod Rests
pub mod Sections
-- moved: what stands behind other lines is the same, moved
pub mod Moved
pub mod MovedSections
-- labels: which labels are looked up, and which there are
pub mod Asked
pub mod DocumentLabels
-- seams: a stretch of lines that goes on over a rest
pub mod JoinedStretches
-- both: blocks and events of both parts
pub mod BothDocuments
-- without containers: such documents are as `Flow` reads them
pub mod WithoutContainers
-- texts: texts, strings and their children of both parts
pub mod ReadTexts
