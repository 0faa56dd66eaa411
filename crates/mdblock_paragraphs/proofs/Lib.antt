-- lines: of text; what is told of each line of a document, and said of those of a section
pub mod LinesOfText
pub mod ToldRows
pub mod SaidRows
pub mod SaidSections
-- letters: in a line stand only its own
pub mod LineOrder
pub mod OwnLetters
pub mod ShownLines
pub mod ReadLines
-- laws
pub mod OpenLines
pub mod OpenEvents
