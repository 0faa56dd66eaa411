-- letters: what a line is, and which marks its leaf block has, with a letter in it
mod LetterBlocks
mod LetterKinds
mod LetterMarks
-- lines: which lines of a document have a letter, and where
mod LaidLines
mod LetteredLines
mod RowLines
mod ToldLines
-- chains: the text of each chain of a skeleton, line by line
mod ChunkRuns
mod SectionTexts
mod StretchLines
-- sections: where blank lines stand
pub mod BlankLines
pub mod SectionsAreThose
-- laws
pub mod BlocksAreThose
mod Examples
mod BlankExamples
