-- constructs: all but HTML blocks
pub mod BlankLine
pub mod ChunkRows
pub mod CodeFenced
pub mod CodeIndented
-- lines: between blocks; the look at a line, which says its kind
pub mod Flow
-- sizes: what constructs share: bytes, writes, costs, steps
pub mod FlowBytes
pub mod FlowCosts
-- machine: the table of the machine, what it knows, and its laws
pub mod FlowKnows
pub mod FlowTable
-- sizes
pub mod FlowWrites
-- constructs
pub mod HeadingAtx
pub mod HeadingEdits
pub mod HeadingSetext
-- HTML blocks: their looks, their reading, and names of tags
pub mod HtmlFlow
pub mod HtmlNames
pub mod HtmlTags
pub mod HtmlWrites
-- laws
pub mod LawStatements
-- machine
pub mod Laws
-- lines
pub mod Look
-- bytes: that states read over
pub mod Over
-- constructs
pub mod Paragraph
-- quiet looks: looks make no event
pub mod QuietLooks
-- constructs
pub mod Renamings
-- sizes
pub mod Steps
-- constructs
pub mod ThematicBreak
