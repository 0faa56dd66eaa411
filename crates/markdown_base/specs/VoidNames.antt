-- The names of spans that hold no other event.
use Rattle.std.specs.Prelude.{List, [], ◌∷◌}
use Rattle.markdown_base.specs.declared.event.Name.{Name}
use Rattle.markdown_base.specs.declared.event.Name.TheVariants.{AttentionSequence, AutolinkEmail, AutolinkMarker, AutolinkProtocol, BlankLineEnding, BlockQuoteMarker, ByteOrderMark, CharacterEscapeMarker, CharacterEscapeValue, CharacterReferenceMarker, CharacterReferenceMarkerHexadecimal, CharacterReferenceMarkerNumeric, CharacterReferenceMarkerSemi, CharacterReferenceValue, CodeFencedFenceSequence, CodeFlowChunk, CodeTextData, CodeTextSequence, Data, DefinitionDestinationLiteralMarker, DefinitionLabelMarker, DefinitionMarker, DefinitionTitleMarker, EmphasisSequence, FrontmatterChunk, FrontmatterSequence, GfmAutolinkLiteralEmail, GfmAutolinkLiteralProtocol, GfmAutolinkLiteralWww, GfmFootnoteCallMarker, GfmFootnoteDefinitionLabelMarker, GfmFootnoteDefinitionMarker, GfmStrikethroughSequence, GfmTableCellDivider, GfmTableDelimiterMarker, GfmTableDelimiterFiller, GfmTaskListItemMarker, GfmTaskListItemValueChecked, GfmTaskListItemValueUnchecked, HardBreakEscape, HardBreakTrailing, HeadingAtxSequence, HeadingSetextUnderlineSequence, HtmlFlowData, HtmlTextData, LabelImageMarker, LabelMarker, LineEnding, ListItemMarker, ListItemValue, MathFlowFenceSequence, MathFlowChunk, MathTextData, MathTextSequence, ReferenceMarker, ResourceMarker, ResourceTitleMarker, SpaceOrTab, StrongSequence, ThematicBreakSequence}

-- the void names, in the order of the crate's list of void events
abbrev pub void_names : List Name
void_names =
    AttentionSequence ∷ AutolinkEmail ∷ AutolinkMarker ∷ AutolinkProtocol ∷ BlankLineEnding ∷ BlockQuoteMarker ∷ ByteOrderMark ∷
    CharacterEscapeMarker ∷ CharacterEscapeValue ∷ CharacterReferenceMarker ∷ CharacterReferenceMarkerHexadecimal ∷ CharacterReferenceMarkerNumeric ∷
    CharacterReferenceMarkerSemi ∷ CharacterReferenceValue ∷ CodeFencedFenceSequence ∷ CodeFlowChunk ∷ CodeTextData ∷ CodeTextSequence ∷ Data ∷
    DefinitionDestinationLiteralMarker ∷ DefinitionLabelMarker ∷ DefinitionMarker ∷ DefinitionTitleMarker ∷ EmphasisSequence ∷ FrontmatterChunk ∷
    GfmAutolinkLiteralEmail ∷ GfmAutolinkLiteralProtocol ∷ GfmAutolinkLiteralWww ∷ GfmFootnoteCallMarker ∷ GfmFootnoteDefinitionLabelMarker ∷
    GfmFootnoteDefinitionMarker ∷ GfmStrikethroughSequence ∷ GfmTableCellDivider ∷ GfmTableDelimiterMarker ∷ GfmTableDelimiterFiller ∷
    GfmTaskListItemMarker ∷ GfmTaskListItemValueChecked ∷ GfmTaskListItemValueUnchecked ∷ FrontmatterSequence ∷ HardBreakEscape ∷ HardBreakTrailing ∷
    HeadingAtxSequence ∷ HeadingSetextUnderlineSequence ∷ HtmlFlowData ∷ HtmlTextData ∷ LabelImageMarker ∷ LabelMarker ∷ LineEnding ∷
    ListItemMarker ∷ ListItemValue ∷ MathFlowFenceSequence ∷ MathFlowChunk ∷ MathTextData ∷ MathTextSequence ∷ ReferenceMarker ∷ ResourceMarker ∷
    ResourceTitleMarker ∷ SpaceOrTab ∷ StrongSequence ∷ ThematicBreakSequence ∷ []
