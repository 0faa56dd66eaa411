-- Which names the spans of a document may have, by the constructs that are on (CommonMark 0.31; GFM 0.29 for those of GFM): a construct that is off
-- leaves no span.
use Rattle.std.specs.Prelude.{◌&&◌, ◌||◌, Bool, false, true}
use Rattle.markdown_base.specs.declared.configuration.Constructs.{Constructs}
use Rattle.markdown_base.specs.declared.event.Name.{Name}
use Rattle.markdown_base.specs.declared.event.Name.TheVariants.{Autolink, AutolinkEmail, AutolinkMarker, AutolinkProtocol, BlankLineEnding, BlockQuote, BlockQuoteMarker, BlockQuotePrefix, CharacterEscape, CharacterEscapeMarker, CharacterEscapeValue, CharacterReference, CharacterReferenceMarker, CharacterReferenceMarkerHexadecimal, CharacterReferenceMarkerNumeric, CharacterReferenceMarkerSemi, CharacterReferenceValue, CodeFenced, CodeFencedFence, CodeFencedFenceInfo, CodeFencedFenceMeta, CodeFencedFenceSequence, CodeFlowChunk, CodeIndented, CodeText, CodeTextData, CodeTextSequence, Data, Definition, DefinitionDestination, DefinitionDestinationLiteral, DefinitionDestinationLiteralMarker, DefinitionDestinationRaw, DefinitionDestinationString, DefinitionLabel, DefinitionLabelMarker, DefinitionLabelString, DefinitionMarker, DefinitionTitle, DefinitionTitleMarker, DefinitionTitleString, Emphasis, EmphasisSequence, EmphasisText, GfmFootnoteDefinition, GfmFootnoteDefinitionLabel, GfmFootnoteDefinitionLabelMarker, GfmFootnoteDefinitionLabelString, GfmFootnoteDefinitionMarker, GfmFootnoteDefinitionPrefix, GfmStrikethrough, GfmStrikethroughSequence, GfmStrikethroughText, GfmTable, GfmTableBody, GfmTableCell, GfmTableCellDivider, GfmTableCellText, GfmTableDelimiterCell, GfmTableDelimiterCellValue, GfmTableDelimiterFiller, GfmTableDelimiterMarker, GfmTableDelimiterRow, GfmTableHead, GfmTableRow, HardBreakEscape, HardBreakTrailing, HeadingAtx, HeadingAtxSequence, HeadingAtxText, HeadingSetext, HeadingSetextText, HeadingSetextUnderline, HeadingSetextUnderlineSequence, HtmlFlow, HtmlFlowData, HtmlText, HtmlTextData, Image, Label, LabelEnd, LabelImage, LabelImageMarker, LabelLink, LabelMarker, LabelText, LineEnding, Link, ListItem, ListItemMarker, ListItemPrefix, ListItemValue, ListOrdered, ListUnordered, Paragraph, Reference, ReferenceMarker, ReferenceString, Resource, ResourceDestination, ResourceDestinationLiteral, ResourceDestinationLiteralMarker, ResourceDestinationRaw, ResourceDestinationString, ResourceMarker, ResourceTitle, ResourceTitleMarker, ResourceTitleString, SpaceOrTab, Strong, StrongSequence, StrongText, ThematicBreak, ThematicBreakSequence}

-- links and images are on: a bracket that no end of a label follows is text, and so is a `]` that no bracket waits for
abbrev pub has_links : Constructs → Bool
has_links on = on.label_end && on.label_start_link

abbrev pub has_images : Constructs → Bool
has_images on = on.label_end && on.label_start_image

-- one of them is
abbrev pub has_labels : Constructs → Bool
has_labels on = on.label_end && (on.label_start_link || on.label_start_image)

-- A document may have spans of this name, if these constructs are on
abbrev pub may_be_named : Constructs → Name → Bool
-- White space, line endings, plain text and paragraphs stand in each document, whatever is on
may_be_named on BlankLineEnding = true
may_be_named on Data = true
may_be_named on LineEnding = true
may_be_named on Paragraph = true
may_be_named on SpaceOrTab = true
-- Thematic breaks (CommonMark, 4.1)
may_be_named on ThematicBreak = on.thematic_break
may_be_named on ThematicBreakSequence = on.thematic_break
-- ATX headings (4.2)
may_be_named on HeadingAtx = on.heading_atx
may_be_named on HeadingAtxSequence = on.heading_atx
may_be_named on HeadingAtxText = on.heading_atx
-- Setext headings (4.3)
may_be_named on HeadingSetext = on.heading_setext
may_be_named on HeadingSetextText = on.heading_setext
may_be_named on HeadingSetextUnderline = on.heading_setext
may_be_named on HeadingSetextUnderlineSequence = on.heading_setext
-- Indented code (4.4) and fenced code (4.5), which share the name of their lines
may_be_named on CodeIndented = on.code_indented
may_be_named on CodeFenced = on.code_fenced
may_be_named on CodeFencedFence = on.code_fenced
may_be_named on CodeFencedFenceInfo = on.code_fenced
may_be_named on CodeFencedFenceMeta = on.code_fenced
may_be_named on CodeFencedFenceSequence = on.code_fenced
may_be_named on CodeFlowChunk = on.code_indented || on.code_fenced
-- HTML blocks (4.6)
may_be_named on HtmlFlow = on.html_flow
may_be_named on HtmlFlowData = on.html_flow
-- Link reference definitions (4.7), which share the name of their colon with footnote definitions
may_be_named on Definition = on.definition
may_be_named on DefinitionDestination = on.definition
may_be_named on DefinitionDestinationLiteral = on.definition
may_be_named on DefinitionDestinationLiteralMarker = on.definition
may_be_named on DefinitionDestinationRaw = on.definition
may_be_named on DefinitionDestinationString = on.definition
may_be_named on DefinitionLabel = on.definition
may_be_named on DefinitionLabelMarker = on.definition
may_be_named on DefinitionLabelString = on.definition
may_be_named on DefinitionMarker = on.definition || on.gfm_footnote_definition
may_be_named on DefinitionTitle = on.definition
may_be_named on DefinitionTitleMarker = on.definition
may_be_named on DefinitionTitleString = on.definition
-- Tables (GFM, 4.10)
may_be_named on GfmTable = on.gfm_table
may_be_named on GfmTableBody = on.gfm_table
may_be_named on GfmTableCell = on.gfm_table
may_be_named on GfmTableCellDivider = on.gfm_table
may_be_named on GfmTableCellText = on.gfm_table
may_be_named on GfmTableDelimiterCell = on.gfm_table
may_be_named on GfmTableDelimiterCellValue = on.gfm_table
may_be_named on GfmTableDelimiterFiller = on.gfm_table
may_be_named on GfmTableDelimiterMarker = on.gfm_table
may_be_named on GfmTableDelimiterRow = on.gfm_table
may_be_named on GfmTableHead = on.gfm_table
may_be_named on GfmTableRow = on.gfm_table
-- Block quotes (5.1)
may_be_named on BlockQuote = on.block_quote
may_be_named on BlockQuoteMarker = on.block_quote
may_be_named on BlockQuotePrefix = on.block_quote
-- List items (5.2) and lists (5.3)
may_be_named on ListItem = on.list_item
may_be_named on ListItemMarker = on.list_item
may_be_named on ListItemPrefix = on.list_item
may_be_named on ListItemValue = on.list_item
may_be_named on ListOrdered = on.list_item
may_be_named on ListUnordered = on.list_item
-- Footnote definitions, which are in no specification
may_be_named on GfmFootnoteDefinition = on.gfm_footnote_definition
may_be_named on GfmFootnoteDefinitionLabel = on.gfm_footnote_definition
may_be_named on GfmFootnoteDefinitionLabelMarker = on.gfm_footnote_definition
may_be_named on GfmFootnoteDefinitionLabelString = on.gfm_footnote_definition
may_be_named on GfmFootnoteDefinitionMarker = on.gfm_footnote_definition
may_be_named on GfmFootnoteDefinitionPrefix = on.gfm_footnote_definition
-- Backslash escapes (2.4) and character references (2.5)
may_be_named on CharacterEscape = on.character_escape
may_be_named on CharacterEscapeMarker = on.character_escape
may_be_named on CharacterEscapeValue = on.character_escape
may_be_named on CharacterReference = on.character_reference
may_be_named on CharacterReferenceMarker = on.character_reference
may_be_named on CharacterReferenceMarkerHexadecimal = on.character_reference
may_be_named on CharacterReferenceMarkerNumeric = on.character_reference
may_be_named on CharacterReferenceMarkerSemi = on.character_reference
may_be_named on CharacterReferenceValue = on.character_reference
-- Code spans (6.1)
may_be_named on CodeText = on.code_text
may_be_named on CodeTextData = on.code_text
may_be_named on CodeTextSequence = on.code_text
-- Emphasis and strong emphasis (6.2). What is read as a delimiter run is made into them, or into plain text
may_be_named on Emphasis = on.attention
may_be_named on EmphasisSequence = on.attention
may_be_named on EmphasisText = on.attention
may_be_named on Strong = on.attention
may_be_named on StrongSequence = on.attention
may_be_named on StrongText = on.attention
-- Strikethrough (GFM, 6.5), whether emphasis is on or not
may_be_named on GfmStrikethrough = on.gfm_strikethrough
may_be_named on GfmStrikethroughSequence = on.gfm_strikethrough
may_be_named on GfmStrikethroughText = on.gfm_strikethrough
-- Links (6.3) and images (6.4); references only where definitions are on, as their labels are those of definitions
may_be_named on LabelLink = has_links on
may_be_named on Link = has_links on
may_be_named on Image = has_images on
may_be_named on LabelImage = has_images on
may_be_named on LabelImageMarker = has_images on
may_be_named on Label = has_labels on
may_be_named on LabelEnd = has_labels on
may_be_named on LabelMarker = has_labels on
may_be_named on LabelText = has_labels on
may_be_named on Resource = has_labels on
may_be_named on ResourceDestination = has_labels on
may_be_named on ResourceDestinationLiteral = has_labels on
may_be_named on ResourceDestinationLiteralMarker = has_labels on
may_be_named on ResourceDestinationRaw = has_labels on
may_be_named on ResourceDestinationString = has_labels on
may_be_named on ResourceMarker = has_labels on
may_be_named on ResourceTitle = has_labels on
may_be_named on ResourceTitleMarker = has_labels on
may_be_named on ResourceTitleString = has_labels on
may_be_named on Reference = has_labels on && on.definition
may_be_named on ReferenceMarker = has_labels on && on.definition
may_be_named on ReferenceString = has_labels on && on.definition
-- Autolinks (6.5)
may_be_named on Autolink = on.autolink
may_be_named on AutolinkEmail = on.autolink
may_be_named on AutolinkMarker = on.autolink
may_be_named on AutolinkProtocol = on.autolink
-- Raw HTML (6.6)
may_be_named on HtmlText = on.html_text
may_be_named on HtmlTextData = on.html_text
-- Hard breaks (6.7)
may_be_named on HardBreakEscape = on.hard_break_escape
may_be_named on HardBreakTrailing = on.hard_break_trailing
-- No span has another name: that of a construct which no document is read with, or of content that is read as something else
may_be_named on _ = false
