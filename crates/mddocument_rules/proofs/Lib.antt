mod Prelude
-- walks: what is around each event; children in place of chains
pub mod Walk
pub mod Weave
-- standing
pub mod Blocks
pub mod BlocksPlain
pub mod Definitions
pub mod DefinitionsApart
pub mod DocumentStands
pub mod Emphasised
pub mod Frames
pub mod Gaps
pub mod LeafBlocks
pub mod Links
pub mod Passes
pub mod Places
pub mod SectionGaps
pub mod Sections
pub mod Skeletons
mod StandingExamples
pub mod TextItems
pub mod TightSpans
-- definitions: those of events are those of sections
pub mod Held
pub mod HeldStrings
pub mod HeldTexts
pub mod HeldSpans
pub mod HeldSections
pub mod SpokenDefinitions
pub mod DefinitionEvents
pub mod LabelStrings
-- labels: as they are written among events they are those of lines
pub mod AlikeTexts
pub mod WrittenSpans
pub mod VirtualBytes
pub mod WrittenPrefixes
pub mod WrittenStrings
pub mod WrittenPlaces
pub mod LaidRows
pub mod LabelTexts
-- links: none is in a link
pub mod BracketTexts
pub mod DocumentLinks
pub mod EndReasons
pub mod FlatLinks
pub mod HeldParts
pub mod LinkedFlat
pub mod LinksApart
pub mod MadeTexts
pub mod WrittenRuns
pub mod OwnLabels
pub mod OwnWritten
pub mod Leading
pub mod MadeLeads
pub mod FoldReferences
pub mod TailLeads
pub mod TextReferences
pub mod ReferenceStrings
pub mod Reworked
pub mod AddedSpace
pub mod LeadSegments
pub mod ApartLinks
pub mod SpacedRuns
pub mod SpacedChains
pub mod TextsLead
pub mod StringsLead
pub mod WhiteGaps
pub mod TextGaps
pub mod DefinedReferences
pub mod CutTexts
pub mod WrittenTexts
pub mod QuietItems
pub mod ItemKinds
-- lists
pub mod BegunPlaces
pub mod Markers
pub mod NearQuotes
pub mod Neighbours
pub mod OpenRows
pub mod ListItems
pub mod MarkedMarks
pub mod MarkedSections
pub mod WrittenMarkers
pub mod MarkedLists
mod ListExamples
