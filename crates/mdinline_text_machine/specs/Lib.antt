-- definition: texts, without states
pub mod Bytes
pub mod Items
pub mod Parts
pub mod TextEvents
-- construct: as a part, and how a machine reads it; the main law of machines that are lists of constructs
pub mod Construct
-- constructs
pub mod Autolink
pub mod AutolinkRows
pub mod CodeSpan
pub mod CodeSpanRows
pub mod Escape
pub mod EscapeRows
-- machine
pub mod TextRules
pub mod TextTable
pub mod Laws
-- sizes
pub mod TextBytes
pub mod TextCosts
pub mod TextSizes
-- chains
pub mod ChainTexts
pub mod ReadChains
-- texts of paragraphs: said from the lines
pub mod ParagraphTexts
