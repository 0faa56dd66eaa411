-- fronts
pub mod DefinedText
pub mod TextLemmas
-- held text
pub mod HeldLemmas
pub mod HeldTexts
-- rows
pub mod BracketLemmas
pub mod FilledTexts
pub mod KnownLemmas
pub mod KnownReads
pub mod KnownRows
pub mod LastLines
pub mod LeftLines
pub mod Longer
pub mod PlainLetters
pub mod RowTexts
pub mod Shorter
pub mod TableLeaves
pub mod Underlined
-- sections
pub mod Covered
pub mod CutAlike
pub mod SectionApart
pub mod SectionCosts
pub mod SectionCuts
pub mod SectionFacts
pub mod SectionGoes
pub mod SectionGoing
pub mod SectionLemmas
pub mod SectionLetters
pub mod SectionLoop
pub mod SectionMarks
pub mod SectionSound
pub mod SectionSpans
pub mod SectionTight
pub mod SectionTurns
pub mod Sectioned
pub mod SectionsReady
pub mod TableCutting
pub mod TableLines
pub mod TableScans
pub mod TableSeats
pub mod Uncut
pub mod Within
-- marks
pub mod DefinitionLines
pub mod DefinitionMarks
pub mod DefinitionParts
pub mod DefinitionSpans
pub mod DefinitionsWithin
pub mod LaidParts
pub mod MarksCosts
pub mod MarksCursor
pub mod MarksFits
pub mod MarksLoop
pub mod MarksParts
pub mod MarksPlaces
pub mod MarksStrings
pub mod MarksText
pub mod PlainDefinitions
pub mod StringEnds
-- skeleton
pub mod PartSections
pub mod PartTexts
-- laws
pub mod Examples
pub mod Linked
mod TableExamples
pub mod TablesOff
pub mod Without
