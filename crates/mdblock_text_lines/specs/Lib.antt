-- laws
pub mod Asked
-- blocks: sections, by where blank lines stand; leaf blocks of lines of which some are text; and the blocks of a document by these
pub mod DocumentSections
pub mod DocumentBlocks
pub mod TextLines
