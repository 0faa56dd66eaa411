-- The names of all states.
use Rattle.std.specs.Prelude.{List, [], ◌∷◌}
use Rattle.markdown_base.specs.declared.state.Name.{Name}
use Rattle.markdown_base.specs.declared.state.TheConstants.Name.{AttentionStart, AttentionInside, AutolinkStart, AutolinkOpen, AutolinkSchemeOrEmailAtext, AutolinkSchemeInsideOrEmailAtext, AutolinkUrlInside, AutolinkEmailAtSignOrDot, AutolinkEmailAtext, AutolinkEmailValue, AutolinkEmailLabel, BlankLineStart, BlankLineAfter, BlockQuoteStart, BlockQuoteContStart, BlockQuoteContBefore, BlockQuoteContAfter, BomStart, BomInside, CharacterEscapeStart, CharacterEscapeInside, CharacterReferenceStart, CharacterReferenceOpen, CharacterReferenceNumeric, CharacterReferenceValue, CodeIndentedStart, CodeIndentedAtBreak, CodeIndentedAfter, CodeIndentedFurtherStart, CodeIndentedInside, CodeIndentedFurtherBegin, CodeIndentedFurtherAfter, ContentChunkStart, ContentChunkInside, ContentDefinitionBefore, ContentDefinitionAfter, DataStart, DataInside, DataAtBreak, DefinitionStart, DefinitionBefore, DefinitionLabelAfter, DefinitionLabelNok, DefinitionMarkerAfter, DefinitionDestinationBefore, DefinitionDestinationAfter, DefinitionDestinationMissing, DefinitionTitleBefore, DefinitionAfter, DefinitionAfterWhitespace, DefinitionTitleBeforeMarker, DefinitionTitleAfter, DefinitionTitleAfterOptionalWhitespace, DestinationStart, DestinationEnclosedBefore, DestinationEnclosed, DestinationEnclosedEscape, DestinationRaw, DestinationRawEscape, DocumentStart, DocumentBeforeFrontmatter, DocumentContainerExistingBefore, DocumentContainerExistingAfter, DocumentContainerNewBefore, DocumentContainerNewBeforeNotBlockQuote, DocumentContainerNewBeforeNotList, DocumentContainerNewBeforeNotGfmFootnoteDefinition, DocumentContainerNewAfter, DocumentContainersAfter, DocumentFlowInside, DocumentFlowEnd, FlowStart, FlowBeforeGfmTable, FlowBeforeCodeIndented, FlowBeforeRaw, FlowBeforeHtml, FlowBeforeHeadingAtx, FlowBeforeHeadingSetext, FlowBeforeThematicBreak, FlowAfter, FlowBlankLineBefore, FlowBlankLineAfter, FlowBeforeContent, FrontmatterStart, FrontmatterOpenSequence, FrontmatterOpenAfter, FrontmatterAfter, FrontmatterContentStart, FrontmatterContentInside, FrontmatterContentEnd, FrontmatterCloseStart, FrontmatterCloseSequence, FrontmatterCloseAfter, GfmAutolinkLiteralProtocolStart, GfmAutolinkLiteralProtocolAfter, GfmAutolinkLiteralProtocolPrefixInside, GfmAutolinkLiteralProtocolSlashesInside, GfmAutolinkLiteralWwwStart, GfmAutolinkLiteralWwwAfter, GfmAutolinkLiteralWwwPrefixInside, GfmAutolinkLiteralWwwPrefixAfter, GfmAutolinkLiteralDomainInside, GfmAutolinkLiteralDomainAtPunctuation, GfmAutolinkLiteralDomainAfter, GfmAutolinkLiteralPathInside, GfmAutolinkLiteralPathAtPunctuation, GfmAutolinkLiteralPathAfter, GfmAutolinkLiteralTrail, GfmAutolinkLiteralTrailCharRefInside, GfmAutolinkLiteralTrailCharRefStart, GfmAutolinkLiteralTrailBracketAfter, GfmFootnoteDefinitionStart, GfmFootnoteDefinitionLabelBefore, GfmFootnoteDefinitionLabelAtMarker, GfmFootnoteDefinitionLabelInside, GfmFootnoteDefinitionLabelEscape, GfmFootnoteDefinitionLabelAfter, GfmFootnoteDefinitionWhitespaceAfter, GfmFootnoteDefinitionContStart, GfmFootnoteDefinitionContBlank, GfmFootnoteDefinitionContFilled, GfmLabelStartFootnoteStart, GfmLabelStartFootnoteOpen, GfmTaskListItemCheckStart, GfmTaskListItemCheckInside, GfmTaskListItemCheckClose, GfmTaskListItemCheckAfter, GfmTaskListItemCheckAfterSpaceOrTab, GfmTableStart, GfmTableHeadRowBefore, GfmTableHeadRowStart, GfmTableHeadRowBreak, GfmTableHeadRowData, GfmTableHeadRowEscape, GfmTableHeadDelimiterStart, GfmTableHeadDelimiterBefore, GfmTableHeadDelimiterCellBefore, GfmTableHeadDelimiterValueBefore, GfmTableHeadDelimiterLeftAlignmentAfter, GfmTableHeadDelimiterFiller, GfmTableHeadDelimiterRightAlignmentAfter, GfmTableHeadDelimiterCellAfter, GfmTableHeadDelimiterNok, GfmTableBodyRowStart, GfmTableBodyRowBreak, GfmTableBodyRowData, GfmTableBodyRowEscape, HardBreakEscapeStart, HardBreakEscapeAfter, HeadingAtxStart, HeadingAtxBefore, HeadingAtxSequenceOpen, HeadingAtxAtBreak, HeadingAtxSequenceFurther, HeadingAtxData, HeadingSetextStart, HeadingSetextBefore, HeadingSetextInside, HeadingSetextAfter, HtmlFlowStart, HtmlFlowBefore, HtmlFlowOpen, HtmlFlowDeclarationOpen, HtmlFlowCommentOpenInside, HtmlFlowCdataOpenInside, HtmlFlowTagCloseStart, HtmlFlowTagName, HtmlFlowBasicSelfClosing, HtmlFlowCompleteClosingTagAfter, HtmlFlowCompleteEnd, HtmlFlowCompleteAttributeNameBefore, HtmlFlowCompleteAttributeName, HtmlFlowCompleteAttributeNameAfter, HtmlFlowCompleteAttributeValueBefore, HtmlFlowCompleteAttributeValueQuoted, HtmlFlowCompleteAttributeValueQuotedAfter, HtmlFlowCompleteAttributeValueUnquoted, HtmlFlowCompleteAfter, HtmlFlowBlankLineBefore, HtmlFlowContinuation, HtmlFlowContinuationDeclarationInside, HtmlFlowContinuationAfter, HtmlFlowContinuationStart, HtmlFlowContinuationBefore, HtmlFlowContinuationCommentInside, HtmlFlowContinuationRawTagOpen, HtmlFlowContinuationRawEndTag, HtmlFlowContinuationClose, HtmlFlowContinuationCdataInside, HtmlFlowContinuationStartNonLazy, HtmlTextStart, HtmlTextOpen, HtmlTextDeclarationOpen, HtmlTextTagCloseStart, HtmlTextTagClose, HtmlTextTagCloseBetween, HtmlTextTagOpen, HtmlTextTagOpenBetween, HtmlTextTagOpenAttributeName, HtmlTextTagOpenAttributeNameAfter, HtmlTextTagOpenAttributeValueBefore, HtmlTextTagOpenAttributeValueQuoted, HtmlTextTagOpenAttributeValueQuotedAfter, HtmlTextTagOpenAttributeValueUnquoted, HtmlTextCdata, HtmlTextCdataOpenInside, HtmlTextCdataClose, HtmlTextCdataEnd, HtmlTextCommentOpenInside, HtmlTextComment, HtmlTextCommentClose, HtmlTextCommentEnd, HtmlTextDeclaration, HtmlTextEnd, HtmlTextInstruction, HtmlTextInstructionClose, HtmlTextLineEndingBefore, HtmlTextLineEndingAfter, HtmlTextLineEndingAfterPrefix, LabelStart, LabelAtBreak, LabelEolAfter, LabelEscape, LabelInside, LabelNok, LabelEndStart, LabelEndAfter, LabelEndResourceStart, LabelEndResourceBefore, LabelEndResourceOpen, LabelEndResourceDestinationAfter, LabelEndResourceDestinationMissing, LabelEndResourceBetween, LabelEndResourceTitleAfter, LabelEndResourceEnd, LabelEndOk, LabelEndNok, LabelEndReferenceFull, LabelEndReferenceFullAfter, LabelEndReferenceFullMissing, LabelEndReferenceNotFull, LabelEndReferenceCollapsed, LabelEndReferenceCollapsedOpen, LabelStartImageStart, LabelStartImageOpen, LabelStartImageAfter, LabelStartLinkStart, ListItemStart, ListItemBefore, ListItemBeforeOrdered, ListItemBeforeUnordered, ListItemValue, ListItemMarker, ListItemMarkerAfter, ListItemAfter, ListItemMarkerAfterFilled, ListItemWhitespace, ListItemPrefixOther, ListItemWhitespaceAfter, ListItemContStart, ListItemContBlank, ListItemContFilled, NonLazyContinuationStart, NonLazyContinuationAfter, ParagraphStart, ParagraphLineStart, ParagraphInside, RawFlowStart, RawFlowBeforeSequenceOpen, RawFlowSequenceOpen, RawFlowInfoBefore, RawFlowInfo, RawFlowMetaBefore, RawFlowMeta, RawFlowAtNonLazyBreak, RawFlowCloseStart, RawFlowBeforeSequenceClose, RawFlowSequenceClose, RawFlowAfterSequenceClose, RawFlowContentBefore, RawFlowContentStart, RawFlowBeforeContentChunk, RawFlowContentChunk, RawFlowAfter, RawTextStart, RawTextSequenceOpen, RawTextBetween, RawTextData, RawTextSequenceClose, SpaceOrTabStart, SpaceOrTabInside, SpaceOrTabAfter, SpaceOrTabEolStart, SpaceOrTabEolAfterFirst, SpaceOrTabEolAfterEol, SpaceOrTabEolAtEol, SpaceOrTabEolAfterMore, StringStart, StringBefore, StringBeforeData, TextStart, TextBefore, TextBeforeHtml, TextBeforeHardBreakEscape, TextBeforeLabelStartLink, TextBeforeData, ThematicBreakStart, ThematicBreakBefore, ThematicBreakSequence, ThematicBreakAtBreak, TitleStart, TitleBegin, TitleAfterEol, TitleAtBreak, TitleEscape, TitleInside, TitleNok}

-- the names of all states, by construct, each once
abbrev pub state_names : List Name
state_names =
    AttentionStart ∷ AttentionInside ∷ AutolinkStart ∷ AutolinkOpen ∷ AutolinkSchemeOrEmailAtext ∷ AutolinkSchemeInsideOrEmailAtext ∷
    AutolinkUrlInside ∷ AutolinkEmailAtSignOrDot ∷ AutolinkEmailAtext ∷ AutolinkEmailValue ∷ AutolinkEmailLabel ∷ BlankLineStart ∷ BlankLineAfter ∷
    BlockQuoteStart ∷ BlockQuoteContStart ∷ BlockQuoteContBefore ∷ BlockQuoteContAfter ∷ BomStart ∷ BomInside ∷ CharacterEscapeStart ∷
    CharacterEscapeInside ∷ CharacterReferenceStart ∷ CharacterReferenceOpen ∷ CharacterReferenceNumeric ∷ CharacterReferenceValue ∷
    CodeIndentedStart ∷ CodeIndentedAtBreak ∷ CodeIndentedAfter ∷ CodeIndentedFurtherStart ∷ CodeIndentedInside ∷ CodeIndentedFurtherBegin ∷
    CodeIndentedFurtherAfter ∷ ContentChunkStart ∷ ContentChunkInside ∷ ContentDefinitionBefore ∷ ContentDefinitionAfter ∷ DataStart ∷ DataInside ∷
    DataAtBreak ∷ DefinitionStart ∷ DefinitionBefore ∷ DefinitionLabelAfter ∷ DefinitionLabelNok ∷ DefinitionMarkerAfter ∷
    DefinitionDestinationBefore ∷ DefinitionDestinationAfter ∷ DefinitionDestinationMissing ∷ DefinitionTitleBefore ∷ DefinitionAfter ∷
    DefinitionAfterWhitespace ∷ DefinitionTitleBeforeMarker ∷ DefinitionTitleAfter ∷ DefinitionTitleAfterOptionalWhitespace ∷ DestinationStart ∷
    DestinationEnclosedBefore ∷ DestinationEnclosed ∷ DestinationEnclosedEscape ∷ DestinationRaw ∷ DestinationRawEscape ∷ DocumentStart ∷
    DocumentBeforeFrontmatter ∷ DocumentContainerExistingBefore ∷ DocumentContainerExistingAfter ∷ DocumentContainerNewBefore ∷
    DocumentContainerNewBeforeNotBlockQuote ∷ DocumentContainerNewBeforeNotList ∷ DocumentContainerNewBeforeNotGfmFootnoteDefinition ∷
    DocumentContainerNewAfter ∷ DocumentContainersAfter ∷ DocumentFlowInside ∷ DocumentFlowEnd ∷ FlowStart ∷ FlowBeforeGfmTable ∷
    FlowBeforeCodeIndented ∷ FlowBeforeRaw ∷ FlowBeforeHtml ∷ FlowBeforeHeadingAtx ∷ FlowBeforeHeadingSetext ∷ FlowBeforeThematicBreak ∷ FlowAfter ∷
    FlowBlankLineBefore ∷ FlowBlankLineAfter ∷ FlowBeforeContent ∷ FrontmatterStart ∷ FrontmatterOpenSequence ∷ FrontmatterOpenAfter ∷
    FrontmatterAfter ∷ FrontmatterContentStart ∷ FrontmatterContentInside ∷ FrontmatterContentEnd ∷ FrontmatterCloseStart ∷
    FrontmatterCloseSequence ∷ FrontmatterCloseAfter ∷ GfmAutolinkLiteralProtocolStart ∷ GfmAutolinkLiteralProtocolAfter ∷
    GfmAutolinkLiteralProtocolPrefixInside ∷ GfmAutolinkLiteralProtocolSlashesInside ∷ GfmAutolinkLiteralWwwStart ∷ GfmAutolinkLiteralWwwAfter ∷
    GfmAutolinkLiteralWwwPrefixInside ∷ GfmAutolinkLiteralWwwPrefixAfter ∷ GfmAutolinkLiteralDomainInside ∷ GfmAutolinkLiteralDomainAtPunctuation ∷
    GfmAutolinkLiteralDomainAfter ∷ GfmAutolinkLiteralPathInside ∷ GfmAutolinkLiteralPathAtPunctuation ∷ GfmAutolinkLiteralPathAfter ∷
    GfmAutolinkLiteralTrail ∷ GfmAutolinkLiteralTrailCharRefInside ∷ GfmAutolinkLiteralTrailCharRefStart ∷ GfmAutolinkLiteralTrailBracketAfter ∷
    GfmFootnoteDefinitionStart ∷ GfmFootnoteDefinitionLabelBefore ∷ GfmFootnoteDefinitionLabelAtMarker ∷ GfmFootnoteDefinitionLabelInside ∷
    GfmFootnoteDefinitionLabelEscape ∷ GfmFootnoteDefinitionLabelAfter ∷ GfmFootnoteDefinitionWhitespaceAfter ∷ GfmFootnoteDefinitionContStart ∷
    GfmFootnoteDefinitionContBlank ∷ GfmFootnoteDefinitionContFilled ∷ GfmLabelStartFootnoteStart ∷ GfmLabelStartFootnoteOpen ∷
    GfmTaskListItemCheckStart ∷ GfmTaskListItemCheckInside ∷ GfmTaskListItemCheckClose ∷ GfmTaskListItemCheckAfter ∷
    GfmTaskListItemCheckAfterSpaceOrTab ∷ GfmTableStart ∷ GfmTableHeadRowBefore ∷ GfmTableHeadRowStart ∷ GfmTableHeadRowBreak ∷ GfmTableHeadRowData ∷
    GfmTableHeadRowEscape ∷ GfmTableHeadDelimiterStart ∷ GfmTableHeadDelimiterBefore ∷ GfmTableHeadDelimiterCellBefore ∷
    GfmTableHeadDelimiterValueBefore ∷ GfmTableHeadDelimiterLeftAlignmentAfter ∷ GfmTableHeadDelimiterFiller ∷
    GfmTableHeadDelimiterRightAlignmentAfter ∷ GfmTableHeadDelimiterCellAfter ∷ GfmTableHeadDelimiterNok ∷ GfmTableBodyRowStart ∷
    GfmTableBodyRowBreak ∷ GfmTableBodyRowData ∷ GfmTableBodyRowEscape ∷ HardBreakEscapeStart ∷ HardBreakEscapeAfter ∷ HeadingAtxStart ∷
    HeadingAtxBefore ∷ HeadingAtxSequenceOpen ∷ HeadingAtxAtBreak ∷ HeadingAtxSequenceFurther ∷ HeadingAtxData ∷ HeadingSetextStart ∷
    HeadingSetextBefore ∷ HeadingSetextInside ∷ HeadingSetextAfter ∷ HtmlFlowStart ∷ HtmlFlowBefore ∷ HtmlFlowOpen ∷ HtmlFlowDeclarationOpen ∷
    HtmlFlowCommentOpenInside ∷ HtmlFlowCdataOpenInside ∷ HtmlFlowTagCloseStart ∷ HtmlFlowTagName ∷ HtmlFlowBasicSelfClosing ∷
    HtmlFlowCompleteClosingTagAfter ∷ HtmlFlowCompleteEnd ∷ HtmlFlowCompleteAttributeNameBefore ∷ HtmlFlowCompleteAttributeName ∷
    HtmlFlowCompleteAttributeNameAfter ∷ HtmlFlowCompleteAttributeValueBefore ∷ HtmlFlowCompleteAttributeValueQuoted ∷
    HtmlFlowCompleteAttributeValueQuotedAfter ∷ HtmlFlowCompleteAttributeValueUnquoted ∷ HtmlFlowCompleteAfter ∷ HtmlFlowBlankLineBefore ∷
    HtmlFlowContinuation ∷ HtmlFlowContinuationDeclarationInside ∷ HtmlFlowContinuationAfter ∷ HtmlFlowContinuationStart ∷
    HtmlFlowContinuationBefore ∷ HtmlFlowContinuationCommentInside ∷ HtmlFlowContinuationRawTagOpen ∷ HtmlFlowContinuationRawEndTag ∷
    HtmlFlowContinuationClose ∷ HtmlFlowContinuationCdataInside ∷ HtmlFlowContinuationStartNonLazy ∷ HtmlTextStart ∷ HtmlTextOpen ∷
    HtmlTextDeclarationOpen ∷ HtmlTextTagCloseStart ∷ HtmlTextTagClose ∷ HtmlTextTagCloseBetween ∷ HtmlTextTagOpen ∷ HtmlTextTagOpenBetween ∷
    HtmlTextTagOpenAttributeName ∷ HtmlTextTagOpenAttributeNameAfter ∷ HtmlTextTagOpenAttributeValueBefore ∷ HtmlTextTagOpenAttributeValueQuoted ∷
    HtmlTextTagOpenAttributeValueQuotedAfter ∷ HtmlTextTagOpenAttributeValueUnquoted ∷ HtmlTextCdata ∷ HtmlTextCdataOpenInside ∷ HtmlTextCdataClose ∷
    HtmlTextCdataEnd ∷ HtmlTextCommentOpenInside ∷ HtmlTextComment ∷ HtmlTextCommentClose ∷ HtmlTextCommentEnd ∷ HtmlTextDeclaration ∷ HtmlTextEnd ∷
    HtmlTextInstruction ∷ HtmlTextInstructionClose ∷ HtmlTextLineEndingBefore ∷ HtmlTextLineEndingAfter ∷ HtmlTextLineEndingAfterPrefix ∷
    LabelStart ∷ LabelAtBreak ∷ LabelEolAfter ∷ LabelEscape ∷ LabelInside ∷ LabelNok ∷ LabelEndStart ∷ LabelEndAfter ∷ LabelEndResourceStart ∷
    LabelEndResourceBefore ∷ LabelEndResourceOpen ∷ LabelEndResourceDestinationAfter ∷ LabelEndResourceDestinationMissing ∷ LabelEndResourceBetween ∷
    LabelEndResourceTitleAfter ∷ LabelEndResourceEnd ∷ LabelEndOk ∷ LabelEndNok ∷ LabelEndReferenceFull ∷ LabelEndReferenceFullAfter ∷
    LabelEndReferenceFullMissing ∷ LabelEndReferenceNotFull ∷ LabelEndReferenceCollapsed ∷ LabelEndReferenceCollapsedOpen ∷ LabelStartImageStart ∷
    LabelStartImageOpen ∷ LabelStartImageAfter ∷ LabelStartLinkStart ∷ ListItemStart ∷ ListItemBefore ∷ ListItemBeforeOrdered ∷
    ListItemBeforeUnordered ∷ ListItemValue ∷ ListItemMarker ∷ ListItemMarkerAfter ∷ ListItemAfter ∷ ListItemMarkerAfterFilled ∷ ListItemWhitespace ∷
    ListItemPrefixOther ∷ ListItemWhitespaceAfter ∷ ListItemContStart ∷ ListItemContBlank ∷ ListItemContFilled ∷ NonLazyContinuationStart ∷
    NonLazyContinuationAfter ∷ ParagraphStart ∷ ParagraphLineStart ∷ ParagraphInside ∷ RawFlowStart ∷ RawFlowBeforeSequenceOpen ∷
    RawFlowSequenceOpen ∷ RawFlowInfoBefore ∷ RawFlowInfo ∷ RawFlowMetaBefore ∷ RawFlowMeta ∷ RawFlowAtNonLazyBreak ∷ RawFlowCloseStart ∷
    RawFlowBeforeSequenceClose ∷ RawFlowSequenceClose ∷ RawFlowAfterSequenceClose ∷ RawFlowContentBefore ∷ RawFlowContentStart ∷
    RawFlowBeforeContentChunk ∷ RawFlowContentChunk ∷ RawFlowAfter ∷ RawTextStart ∷ RawTextSequenceOpen ∷ RawTextBetween ∷ RawTextData ∷
    RawTextSequenceClose ∷ SpaceOrTabStart ∷ SpaceOrTabInside ∷ SpaceOrTabAfter ∷ SpaceOrTabEolStart ∷ SpaceOrTabEolAfterFirst ∷
    SpaceOrTabEolAfterEol ∷ SpaceOrTabEolAtEol ∷ SpaceOrTabEolAfterMore ∷ StringStart ∷ StringBefore ∷ StringBeforeData ∷ TextStart ∷ TextBefore ∷
    TextBeforeHtml ∷ TextBeforeHardBreakEscape ∷ TextBeforeLabelStartLink ∷ TextBeforeData ∷ ThematicBreakStart ∷ ThematicBreakBefore ∷
    ThematicBreakSequence ∷ ThematicBreakAtBreak ∷ TitleStart ∷ TitleBegin ∷ TitleAfterEol ∷ TitleAtBreak ∷ TitleEscape ∷ TitleInside ∷ TitleNok ∷ []
