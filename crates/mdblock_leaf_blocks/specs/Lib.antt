-- shape: leaf blocks before and behind the edits of headings, and their shape
pub mod BlockLines
pub mod BlocksFormed
-- reading: each block is read as the definition says
pub mod BlocksRead
-- shape
pub mod BlocksTold
pub mod ChunksJoin
pub mod FlowAccounts
-- whole texts
pub mod FlowEnds
pub mod FlowRead
-- definition: what a line is; lines cut into blocks; their events
pub mod HtmlLines
pub mod LeafBlocks
pub mod LeafEvents
pub mod LineKinds
pub mod LineWords
-- looks: the look at a line finds what it is
pub mod LooksFind
pub mod SeenKinds
-- shape
pub mod ToldChunks
pub mod ToldMarks
