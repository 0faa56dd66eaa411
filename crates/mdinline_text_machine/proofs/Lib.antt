mod Prelude
-- definition
pub mod Examples
-- construct
pub mod Constructs
-- constructs
pub mod Autolinks
pub mod CodeSpans
pub mod Escapes
-- reading: plain text is read; so the whole text is
pub mod Plain
pub mod Texts
-- chains
pub mod NoRefusals
-- paragraphs: chains of text of paragraphs can be read, as their texts or as data; documents are read by blocks
pub mod Paragraphs
-- texts of paragraphs
pub mod ParagraphTexts
-- deep spans: these events account for each virtual byte
pub mod DeepSpans
