-- What the machine of leaf blocks knows is kept: by each state, by looks, and at the end, where the edits that wait give events other names, and chunks are in shape.
use Rattle.std.proofs.Common.{◌≡◌, ◌-◌, List, [], ◌∷◌, ◌++◌, Bool, true, false, cond, Option, Some, None, length, take, refl, sym, ap, ◌∙◌, subst}
use Rattle.std.specs.Prelude.{All, IfSome}
use Rattle.std.proofs.lemmas.List.Elements.{All-nil, All-cons}
use Rattle.markdown_base.specs.declared.event.Event.{Event}
use Rattle.markdown_base.specs.declared.event.Kind.TheVariants.{Enter, Exit}
use Rattle.markdown_base.specs.declared.event.Name.{Name as EventName}
use Rattle.markdown_base.specs.declared.event.Name.TheVariants.{Data, HeadingSetextUnderline, HeadingSetextUnderlineSequence as Sequence, LineEnding, Paragraph, SpaceOrTab}
use Rattle.markdown_base.specs.declared.state.Name.{Name}
use Rattle.markdown_base.specs.declared.state.State.{State}
use Rattle.markdown_base.specs.declared.state.State.TheVariants.{Next, Retry, Ok, Nok}
use Rattle.markdown_base.specs.declared.state.TheConstants.Name.{ContentDefinitionBefore, FlowStart, FlowBlankLineAfter, FlowAfter, FlowBlankLineBefore, BlankLineStart, FlowBeforeThematicBreak, ThematicBreakBefore, ThematicBreakAtBreak, ThematicBreakSequence, FlowBeforeHeadingAtx, HeadingAtxStart, HeadingAtxSequenceOpen, HeadingAtxAtBreak, HeadingAtxBefore, HeadingAtxData, CodeIndentedStart, CodeIndentedAtBreak, CodeIndentedFurtherAfter, CodeIndentedInside, CodeIndentedFurtherStart, CodeIndentedAfter, CodeIndentedFurtherBegin, FlowBeforeRaw, RawFlowStart, RawFlowSequenceOpen, RawFlowInfoBefore, RawFlowBeforeSequenceOpen, RawFlowInfo, RawFlowMetaBefore, RawFlowMeta, RawFlowAtNonLazyBreak, RawFlowCloseStart, RawFlowBeforeSequenceClose, RawFlowSequenceClose, RawFlowAfterSequenceClose, RawFlowContentBefore, RawFlowContentStart, RawFlowBeforeContentChunk, RawFlowContentChunk, RawFlowAfter, HtmlFlowOpen, HtmlFlowDeclarationOpen, HtmlFlowCommentOpenInside, HtmlFlowCdataOpenInside, HtmlFlowTagCloseStart, HtmlFlowTagName, HtmlFlowBasicSelfClosing, HtmlFlowCompleteClosingTagAfter, HtmlFlowCompleteEnd, HtmlFlowCompleteAttributeNameBefore, HtmlFlowCompleteAttributeName, HtmlFlowCompleteAttributeNameAfter, HtmlFlowCompleteAttributeValueBefore, HtmlFlowCompleteAttributeValueQuoted, HtmlFlowCompleteAttributeValueQuotedAfter, HtmlFlowCompleteAttributeValueUnquoted, HtmlFlowCompleteAfter, HtmlFlowStart, HtmlFlowContinuation, HtmlFlowContinuationCommentInside, HtmlFlowContinuationCdataInside, HtmlFlowContinuationDeclarationInside, HtmlFlowContinuationRawTagOpen, HtmlFlowContinuationRawEndTag, HtmlFlowContinuationClose, HtmlFlowContinuationBefore, HtmlFlowBlankLineBefore, HtmlFlowContinuationAfter, HtmlFlowContinuationStart, FlowBeforeContent, ParagraphStart, ParagraphInside, ParagraphLineStart, FlowBeforeHeadingSetext, HeadingSetextStart, HeadingSetextBefore, HeadingSetextInside, HeadingSetextAfter}
use Rattle.mdblock_leaf_rows.specs.declared.names.TheConstants.{ParagraphLookStart, HeadingAtxLookStart, HeadingAtxLookText, HeadingAtxLookBlank, HeadingAtxLookSigns, HeadingAtxLookAfter, CodeIndentedLineAfter, RawFlowLookInfo, RawFlowInfoAfter, RawFlowCloseBefore, RawFlowCloseBlank, RawFlowCloseSequence, RawFlowCloseBetween, HtmlFlowBlankLineInside, ParagraphLineAfter, HeadingSetextLookAfter, HeadingSetextTextAfter}
use Rattle.markdown_base.specs.Events.{EndsBelow, IsBalanced}
use Rattle.markdown_edits.specs.Edited.{edited}
use Rattle.markdown_edits.specs.Links.{linked_to}
use Rattle.markdown_base.specs.OpenNames.{names_after}
use Rattle.markdown_tokenizer.specs.declared.waiting.AttemptKind.{AttemptKind}
use Rattle.markdown_tokenizer.specs.declared.waiting.AttemptKind.TheVariants.{Attempt, Check}
use Rattle.markdown_tokenizer.specs.Text.{Given, Text}
use Rattle.markdown_tokenizer.specs.Configuration.{Configuration, Local, Choice, Saved, start_configuration}
use Rattle.markdown_tokenizer.specs.Calls.{with_local}
use Rattle.markdown_tokenizer.specs.Sight.{Sight}
use Rattle.markdown_tokenizer.specs.Reading.{settled_at}
use Rattle.markdown_tokenizer.specs.Resolving.{CanBeEdited, IsInShape}
use Rattle.markdown_tokenizer.specs.Engine.{IsWellFormed, EndsWellFormed}
use Rattle.mdconstructs_tables.specs.Cases.{Case, rows_in}
use Rattle.markdown_tokenizer.proofs.Inside.Changes.{linked-unlinked}
use Rattle.mdconstructs_tables.specs.Chunks.{alone, chunk_before, connected, is_connected, last_event}
use Rattle.mdconstructs_tables.specs.Knowledge.{EachRow, KnownAfter, KeepsKnowing, IsKnownThroughout, KnowsFalling}
use Rattle.mdconstructs_tables.specs.LinkShapes.{AreInShape}
use Rattle.mdconstructs_tables.specs.Rows.{Act, enter, enter_link, exit, consume, links, write, Rows, row, when, step_of}
use Rattle.mdconstructs_tables.proofs.LinkShapes.{more-shape}
use Rattle.mdconstructs_tables.specs.Paragraphs.{text_link}
use Rattle.mdconstructs_tables.proofs.Paragraphs.{chunk_enter, begins-chunk, ended-chunk, ends-with, ends-linked, last-index, linked-in-shape}
use Rattle.mdblock_leaf_rows.specs.FlowBytes.{FlowByte, Cased, cased}
use Rattle.mdblock_leaf_rows.specs.BlankLine.{blank_line_start_rows, blank_line_start}
use Rattle.mdblock_leaf_rows.specs.CodeFenced.{flow_before_raw_rows, flow_before_raw, raw_flow_look_info_rows, raw_flow_look_info, raw_flow_start_rows, raw_flow_start, raw_flow_sequence_open_rows, raw_flow_sequence_open, raw_flow_info_before_rows, raw_flow_info_before, raw_flow_before_sequence_open_rows, raw_flow_before_sequence_open, raw_flow_info_rows, raw_flow_info, raw_flow_info_after_rows, raw_flow_info_after, raw_flow_meta_before_rows, raw_flow_meta_before, raw_flow_meta_rows, raw_flow_meta, raw_flow_at_non_lazy_break_rows, raw_flow_at_non_lazy_break, raw_flow_close_start_rows, raw_flow_close_start, raw_flow_before_sequence_close_rows, raw_flow_before_sequence_close, raw_flow_sequence_close_rows, raw_flow_sequence_close, raw_flow_after_sequence_close_rows, raw_flow_after_sequence_close, raw_flow_content_before_rows, raw_flow_content_before, raw_flow_content_start_rows, raw_flow_content_start, raw_flow_before_content_chunk_rows, raw_flow_before_content_chunk, raw_flow_content_chunk_rows, raw_flow_content_chunk, raw_flow_after_rows, raw_flow_after, raw_flow_close_before_rows, raw_flow_close_before, raw_flow_close_blank_rows, raw_flow_close_blank, raw_flow_close_sequence_rows, raw_flow_close_sequence, raw_flow_close_between_rows, raw_flow_close_between}
use Rattle.mdblock_leaf_rows.specs.CodeIndented.{code_indented_start_rows, code_indented_start, code_indented_at_break_rows, code_indented_at_break, code_indented_further_after_rows, code_indented_further_after, code_indented_inside_rows, code_indented_inside, code_indented_further_start_rows, code_indented_further_start, code_indented_line_after_rows, code_indented_line_after, code_indented_after_rows, code_indented_after, code_indented_further_begin_rows, code_indented_further_begin}
use Rattle.mdblock_leaf_rows.specs.Flow.{flow_start_rows, flow_start, content_definition_before_rows, content_definition_before, flow_blank_line_after_rows, flow_blank_line_after, flow_after_rows, flow_after}
use Rattle.mdblock_leaf_rows.specs.HeadingAtx.{flow_before_heading_atx_rows, flow_before_heading_atx, heading_atx_look_start_rows, heading_atx_look_start, heading_atx_look_text_rows, heading_atx_look_text, heading_atx_look_blank_rows, heading_atx_look_blank, heading_atx_look_signs_rows, heading_atx_look_signs, heading_atx_look_after_rows, heading_atx_look_after, heading_atx_start_rows, heading_atx_start, heading_atx_sequence_open_rows, heading_atx_sequence_open, heading_atx_at_break_rows, heading_atx_at_break, heading_atx_before_rows, heading_atx_before, heading_atx_data_rows, heading_atx_data}
use Rattle.mdblock_leaf_rows.specs.HeadingEdits.{paragraph_begins, paragraph_ends, heading_ends}
use Rattle.mdblock_leaf_rows.specs.HeadingSetext.{flow_before_heading_setext_rows, flow_before_heading_setext, heading_setext_look_after_rows, heading_setext_look_after, heading_setext_text_after_rows, heading_setext_text_after, heading_setext_start_rows, heading_setext_start, heading_setext_before_rows, heading_setext_before, heading_setext_inside_rows, heading_setext_inside, heading_setext_after_rows, heading_setext_after}
use Rattle.mdblock_leaf_rows.specs.HtmlFlow.{html_flow_start_rows, html_flow_start, html_flow_continuation_rows, html_flow_continuation, html_flow_continuation_comment_inside_rows, html_flow_continuation_comment_inside, html_flow_continuation_cdata_inside_rows, html_flow_continuation_cdata_inside, html_flow_continuation_declaration_inside_rows, html_flow_continuation_declaration_inside, html_flow_continuation_raw_tag_open_rows, html_flow_continuation_raw_tag_open, html_flow_continuation_raw_end_tag_goes_on, html_flow_continuation_raw_end_tag_rows, html_flow_continuation_raw_end_tag, html_flow_continuation_close_rows, html_flow_continuation_close, html_flow_continuation_before_rows, html_flow_continuation_before, html_flow_blank_line_before_rows, html_flow_blank_line_before, html_flow_blank_line_inside_rows, html_flow_blank_line_inside, html_flow_continuation_after_rows, html_flow_continuation_after, html_flow_continuation_start_rows, html_flow_continuation_start}
use Rattle.mdblock_leaf_rows.specs.HtmlTags.{html_flow_open_rows, html_flow_open, html_flow_declaration_open_rows, html_flow_declaration_open, html_flow_comment_open_inside_rows, html_flow_comment_open_inside, html_flow_cdata_open_inside_rows, html_flow_cdata_open_inside, html_flow_tag_close_start_rows, html_flow_tag_close_start, html_flow_tag_name_goes_on, html_flow_tag_name_rows, html_flow_tag_name, html_flow_basic_self_closing_rows, html_flow_basic_self_closing, html_flow_complete_closing_tag_after_rows, html_flow_complete_closing_tag_after, html_flow_complete_end_rows, html_flow_complete_end, html_flow_complete_attribute_name_before_rows, html_flow_complete_attribute_name_before, html_flow_complete_attribute_name_rows, html_flow_complete_attribute_name, html_flow_complete_attribute_name_after_rows, html_flow_complete_attribute_name_after, html_flow_complete_attribute_value_before_rows, html_flow_complete_attribute_value_before, html_flow_complete_attribute_value_quoted_rows, html_flow_complete_attribute_value_quoted, html_flow_complete_attribute_value_quoted_after_rows, html_flow_complete_attribute_value_quoted_after, html_flow_complete_attribute_value_unquoted_rows, html_flow_complete_attribute_value_unquoted, html_flow_complete_after_rows, html_flow_complete_after}
use Rattle.mdblock_leaf_rows.specs.Look.{flow_blank_line_before_rows, flow_blank_line_before, paragraph_look_start_rows, paragraph_look_start}
use Rattle.mdblock_leaf_rows.specs.Paragraph.{flow_before_content_rows, flow_before_content, paragraph_start_rows, paragraph_start, paragraph_inside_rows, paragraph_inside, paragraph_line_start_rows, paragraph_line_start, paragraph_line_after_rows, paragraph_line_after}
use Rattle.mdblock_leaf_rows.specs.ThematicBreak.{flow_before_thematic_break_rows, flow_before_thematic_break, thematic_break_before_rows, thematic_break_before, thematic_break_at_break_rows, thematic_break_at_break, thematic_break_sequence_rows, thematic_break_sequence}
use Rattle.mdblock_leaf_rows.specs.FlowTable.{flow, unchanged}
use Rattle.mdblock_leaf_rows.specs.FlowKnows.{Place, in_chunk, before_chunk, in_underline, elsewhere, place_of, is_looking, RenameSpans, Knows, knows_flow}
use Rattle.mdblock_leaf_rows.specs.Laws.Calm.{Keeps, edits-left, reading-keeps, reading-keeps-spelled, look-state-keeps, look-state-keeps-spelled}
use Rattle.mdblock_leaf_rows.specs.Laws.Fit.{none}
use Rattle.mdblock_leaf_rows.specs.Laws.Headings.{spans-more, paragraph-first, paragraph-more, paragraph-linked, paragraph-last, underline-more, heading-made}
use Rattle.mdblock_leaf_rows.specs.Laws.Renamings.{told-edits-apart, told-in-shape, told-well-formed}
use Rattle.std.proofs.Math.Seq.{take-length}

flow_start-keeps : KeepsKnowing flow knows_flow flow_start
flow_start-keeps = reading-keeps FlowStart flow_start_rows refl refl (λ k. refl, tt)

content_definition_before-keeps : KeepsKnowing flow knows_flow content_definition_before
content_definition_before-keeps = reading-keeps ContentDefinitionBefore content_definition_before_rows refl refl tt

flow_blank_line_after-keeps : KeepsKnowing flow knows_flow flow_blank_line_after
flow_blank_line_after-keeps = reading-keeps FlowBlankLineAfter flow_blank_line_after_rows refl refl (λ k. refl, tt)

flow_after-keeps : KeepsKnowing flow knows_flow flow_after
flow_after-keeps = reading-keeps FlowAfter flow_after_rows refl refl tt

flow_blank_line_before-keeps : KeepsKnowing flow knows_flow flow_blank_line_before
flow_blank_line_before-keeps = look-state-keeps FlowBlankLineBefore flow_blank_line_before_rows refl refl (λ k. refl, (λ k. refl, (λ k. refl, (λ k. refl, (λ k. refl, (λ k. refl, (λ k. refl, (λ k. refl, (λ k. refl, (λ k. refl, (λ k. refl, (λ k. refl, (λ k. refl, (λ k. refl, (λ k. refl, (λ k. refl, (λ k. refl, (λ k. refl, (λ k. refl, (λ k. refl, (λ k. refl, (λ k. refl, (λ k. refl, (λ k. refl, (λ k. refl, (λ k. refl, (λ k. refl, (λ k. refl, (λ k. refl, tt)))))))))))))))))))))))))))))

paragraph_look_start-keeps : KeepsKnowing flow knows_flow paragraph_look_start
paragraph_look_start-keeps = look-state-keeps ParagraphLookStart paragraph_look_start_rows refl refl (λ k. refl, tt)

blank_line_start-keeps : KeepsKnowing flow knows_flow blank_line_start
blank_line_start-keeps = reading-keeps BlankLineStart blank_line_start_rows refl refl tt

flow_before_thematic_break-keeps : KeepsKnowing flow knows_flow flow_before_thematic_break
flow_before_thematic_break-keeps = look-state-keeps FlowBeforeThematicBreak flow_before_thematic_break_rows refl refl (λ k. refl, (λ k. refl, (λ k. refl, tt)))

thematic_break_before-keeps : KeepsKnowing flow knows_flow thematic_break_before
thematic_break_before-keeps = reading-keeps ThematicBreakBefore thematic_break_before_rows refl refl tt

thematic_break_at_break-keeps : KeepsKnowing flow knows_flow thematic_break_at_break
thematic_break_at_break-keeps = reading-keeps ThematicBreakAtBreak thematic_break_at_break_rows refl refl tt

thematic_break_sequence-keeps : KeepsKnowing flow knows_flow thematic_break_sequence
thematic_break_sequence-keeps = reading-keeps ThematicBreakSequence thematic_break_sequence_rows refl refl tt

flow_before_heading_atx-keeps : KeepsKnowing flow knows_flow flow_before_heading_atx
flow_before_heading_atx-keeps = look-state-keeps FlowBeforeHeadingAtx flow_before_heading_atx_rows refl refl (λ k. refl, (λ k. refl, (λ k. refl, (λ k. refl, (λ k. refl, (λ k. refl, (λ k. refl, (λ k. refl, tt))))))))

heading_atx_look_start-keeps : KeepsKnowing flow knows_flow heading_atx_look_start
heading_atx_look_start-keeps = look-state-keeps HeadingAtxLookStart heading_atx_look_start_rows refl refl (λ k. refl, (λ k. refl, tt))

heading_atx_look_text-keeps : KeepsKnowing flow knows_flow heading_atx_look_text
heading_atx_look_text-keeps = look-state-keeps HeadingAtxLookText heading_atx_look_text_rows refl refl (λ k. refl, (λ k. refl, tt))

heading_atx_look_blank-keeps : KeepsKnowing flow knows_flow heading_atx_look_blank
heading_atx_look_blank-keeps = look-state-keeps HeadingAtxLookBlank heading_atx_look_blank_rows refl refl (λ k. refl, (λ k. refl, (λ k. refl, tt)))

heading_atx_look_signs-keeps : KeepsKnowing flow knows_flow heading_atx_look_signs
heading_atx_look_signs-keeps = look-state-keeps HeadingAtxLookSigns heading_atx_look_signs_rows refl refl (λ k. refl, (λ k. refl, (λ k. refl, tt)))

heading_atx_look_after-keeps : KeepsKnowing flow knows_flow heading_atx_look_after
heading_atx_look_after-keeps = look-state-keeps HeadingAtxLookAfter heading_atx_look_after_rows refl refl (λ k. refl, (λ k. refl, (λ k. refl, tt)))

heading_atx_start-keeps : KeepsKnowing flow knows_flow heading_atx_start
heading_atx_start-keeps = reading-keeps HeadingAtxStart heading_atx_start_rows refl refl tt

heading_atx_sequence_open-keeps : KeepsKnowing flow knows_flow heading_atx_sequence_open
heading_atx_sequence_open-keeps = reading-keeps HeadingAtxSequenceOpen heading_atx_sequence_open_rows refl refl tt

heading_atx_at_break-keeps : KeepsKnowing flow knows_flow heading_atx_at_break
heading_atx_at_break-keeps = reading-keeps HeadingAtxAtBreak heading_atx_at_break_rows refl refl (λ k. refl, tt)

heading_atx_before-keeps : KeepsKnowing flow knows_flow heading_atx_before
heading_atx_before-keeps = reading-keeps HeadingAtxBefore heading_atx_before_rows refl refl tt

heading_atx_data-keeps : KeepsKnowing flow knows_flow heading_atx_data
heading_atx_data-keeps = reading-keeps HeadingAtxData heading_atx_data_rows refl refl (λ k. refl, (λ k. refl, tt))

code_indented_start-keeps : KeepsKnowing flow knows_flow code_indented_start
code_indented_start-keeps = reading-keeps CodeIndentedStart code_indented_start_rows refl refl (λ k. refl, tt)

code_indented_at_break-keeps : KeepsKnowing flow knows_flow code_indented_at_break
code_indented_at_break-keeps = reading-keeps CodeIndentedAtBreak code_indented_at_break_rows refl refl tt

code_indented_further_after-keeps : KeepsKnowing flow knows_flow code_indented_further_after
code_indented_further_after-keeps = reading-keeps CodeIndentedFurtherAfter code_indented_further_after_rows refl refl tt

code_indented_inside-keeps : KeepsKnowing flow knows_flow code_indented_inside
code_indented_inside-keeps = reading-keeps CodeIndentedInside code_indented_inside_rows refl refl tt

code_indented_further_start-keeps : KeepsKnowing flow knows_flow code_indented_further_start
code_indented_further_start-keeps = look-state-keeps CodeIndentedFurtherStart code_indented_further_start_rows refl refl (λ k. refl, (λ k. refl, tt))

code_indented_line_after-keeps : KeepsKnowing flow knows_flow code_indented_line_after
code_indented_line_after-keeps = reading-keeps CodeIndentedLineAfter code_indented_line_after_rows refl refl tt

code_indented_after-keeps : KeepsKnowing flow knows_flow code_indented_after
code_indented_after-keeps = reading-keeps CodeIndentedAfter code_indented_after_rows refl refl tt

code_indented_further_begin-keeps : KeepsKnowing flow knows_flow code_indented_further_begin
code_indented_further_begin-keeps = reading-keeps CodeIndentedFurtherBegin code_indented_further_begin_rows refl refl (λ k. refl, tt)

flow_before_raw-keeps : KeepsKnowing flow knows_flow flow_before_raw
flow_before_raw-keeps = look-state-keeps FlowBeforeRaw flow_before_raw_rows refl refl (λ k. refl, (λ k. refl, (λ k. refl, (λ k. refl, tt))))

raw_flow_look_info-keeps : KeepsKnowing flow knows_flow raw_flow_look_info
raw_flow_look_info-keeps = look-state-keeps RawFlowLookInfo raw_flow_look_info_rows refl refl (λ k. refl, (λ k. refl, tt))

raw_flow_start-keeps : KeepsKnowing flow knows_flow raw_flow_start
raw_flow_start-keeps = reading-keeps RawFlowStart raw_flow_start_rows refl refl tt

raw_flow_sequence_open-keeps : KeepsKnowing flow knows_flow raw_flow_sequence_open
raw_flow_sequence_open-keeps = reading-keeps RawFlowSequenceOpen raw_flow_sequence_open_rows refl refl tt

raw_flow_info_before-keeps : KeepsKnowing flow knows_flow raw_flow_info_before
raw_flow_info_before-keeps = reading-keeps RawFlowInfoBefore raw_flow_info_before_rows refl refl tt

raw_flow_before_sequence_open-keeps : KeepsKnowing flow knows_flow raw_flow_before_sequence_open
raw_flow_before_sequence_open-keeps = reading-keeps RawFlowBeforeSequenceOpen raw_flow_before_sequence_open_rows refl refl tt

raw_flow_info-keeps : KeepsKnowing flow knows_flow raw_flow_info
raw_flow_info-keeps = reading-keeps RawFlowInfo raw_flow_info_rows refl refl tt

raw_flow_info_after-keeps : KeepsKnowing flow knows_flow raw_flow_info_after
raw_flow_info_after-keeps = reading-keeps RawFlowInfoAfter raw_flow_info_after_rows refl refl tt

raw_flow_meta_before-keeps : KeepsKnowing flow knows_flow raw_flow_meta_before
raw_flow_meta_before-keeps = reading-keeps RawFlowMetaBefore raw_flow_meta_before_rows refl refl tt

raw_flow_meta-keeps : KeepsKnowing flow knows_flow raw_flow_meta
raw_flow_meta-keeps = reading-keeps RawFlowMeta raw_flow_meta_rows refl refl tt

raw_flow_at_non_lazy_break-keeps : KeepsKnowing flow knows_flow raw_flow_at_non_lazy_break
raw_flow_at_non_lazy_break-keeps = reading-keeps RawFlowAtNonLazyBreak raw_flow_at_non_lazy_break_rows refl refl tt

raw_flow_close_start-keeps : KeepsKnowing flow knows_flow raw_flow_close_start
raw_flow_close_start-keeps = look-state-keeps RawFlowCloseStart raw_flow_close_start_rows refl refl (λ k. refl, tt)

raw_flow_before_sequence_close-keeps : KeepsKnowing flow knows_flow raw_flow_before_sequence_close
raw_flow_before_sequence_close-keeps = look-state-keeps RawFlowBeforeSequenceClose raw_flow_before_sequence_close_rows refl refl (λ k. refl, (λ k. refl, tt))

raw_flow_sequence_close-keeps : KeepsKnowing flow knows_flow raw_flow_sequence_close
raw_flow_sequence_close-keeps = look-state-keeps RawFlowSequenceClose raw_flow_sequence_close_rows refl refl (λ k. refl, tt)

raw_flow_after_sequence_close-keeps : KeepsKnowing flow knows_flow raw_flow_after_sequence_close
raw_flow_after_sequence_close-keeps = look-state-keeps RawFlowAfterSequenceClose raw_flow_after_sequence_close_rows refl refl tt

raw_flow_content_before-keeps : KeepsKnowing flow knows_flow raw_flow_content_before
raw_flow_content_before-keeps = reading-keeps RawFlowContentBefore raw_flow_content_before_rows refl refl tt

raw_flow_content_start-keeps : KeepsKnowing flow knows_flow raw_flow_content_start
raw_flow_content_start-keeps = reading-keeps RawFlowContentStart raw_flow_content_start_rows refl refl (λ k. refl, tt)

raw_flow_before_content_chunk-keeps : KeepsKnowing flow knows_flow raw_flow_before_content_chunk
raw_flow_before_content_chunk-keeps = reading-keeps RawFlowBeforeContentChunk raw_flow_before_content_chunk_rows refl refl (λ k. refl, tt)

raw_flow_content_chunk-keeps : KeepsKnowing flow knows_flow raw_flow_content_chunk
raw_flow_content_chunk-keeps = reading-keeps RawFlowContentChunk raw_flow_content_chunk_rows refl refl tt

raw_flow_after-keeps : KeepsKnowing flow knows_flow raw_flow_after
raw_flow_after-keeps = reading-keeps RawFlowAfter raw_flow_after_rows refl refl tt

raw_flow_close_before-keeps : KeepsKnowing flow knows_flow raw_flow_close_before
raw_flow_close_before-keeps = reading-keeps RawFlowCloseBefore raw_flow_close_before_rows refl refl tt

raw_flow_close_blank-keeps : KeepsKnowing flow knows_flow raw_flow_close_blank
raw_flow_close_blank-keeps = reading-keeps RawFlowCloseBlank raw_flow_close_blank_rows refl refl tt

raw_flow_close_sequence-keeps : KeepsKnowing flow knows_flow raw_flow_close_sequence
raw_flow_close_sequence-keeps = reading-keeps RawFlowCloseSequence raw_flow_close_sequence_rows refl refl tt

raw_flow_close_between-keeps : KeepsKnowing flow knows_flow raw_flow_close_between
raw_flow_close_between-keeps = reading-keeps RawFlowCloseBetween raw_flow_close_between_rows refl refl tt

html_flow_open-keeps : KeepsKnowing flow knows_flow html_flow_open
html_flow_open-keeps = look-state-keeps HtmlFlowOpen html_flow_open_rows refl refl (λ k. refl, (λ k. refl, (λ k. refl, tt)))

html_flow_declaration_open-keeps : KeepsKnowing flow knows_flow html_flow_declaration_open
html_flow_declaration_open-keeps = look-state-keeps HtmlFlowDeclarationOpen html_flow_declaration_open_rows refl refl (λ k. refl, (λ k. refl, tt))

html_flow_comment_open_inside-keeps : KeepsKnowing flow knows_flow html_flow_comment_open_inside
html_flow_comment_open_inside-keeps = look-state-keeps HtmlFlowCommentOpenInside html_flow_comment_open_inside_rows refl refl (λ k. refl, tt)

html_flow_cdata_open_inside-keeps : KeepsKnowing flow knows_flow html_flow_cdata_open_inside
html_flow_cdata_open_inside-keeps = look-state-keeps HtmlFlowCdataOpenInside html_flow_cdata_open_inside_rows refl refl (λ k. refl, (λ k. refl, tt))

html_flow_tag_close_start-keeps : KeepsKnowing flow knows_flow html_flow_tag_close_start
html_flow_tag_close_start-keeps = look-state-keeps HtmlFlowTagCloseStart html_flow_tag_close_start_rows refl refl (λ k. refl, (λ k. refl, tt))

html_flow_tag_name-keeps : KeepsKnowing flow knows_flow html_flow_tag_name
html_flow_tag_name-keeps = look-state-keeps-spelled HtmlFlowTagName html_flow_tag_name_goes_on html_flow_tag_name_rows refl (λ byte. refl) (λ byte. (λ k. refl, tt)) refl (λ k. refl, (λ k. refl, (λ k. refl, (λ k. refl, (λ k. refl, (λ k. refl, (λ k. refl, (λ k. refl, (λ k. refl, tt)))))))))

html_flow_basic_self_closing-keeps : KeepsKnowing flow knows_flow html_flow_basic_self_closing
html_flow_basic_self_closing-keeps = look-state-keeps HtmlFlowBasicSelfClosing html_flow_basic_self_closing_rows refl refl (λ k. refl, tt)

html_flow_complete_closing_tag_after-keeps : KeepsKnowing flow knows_flow html_flow_complete_closing_tag_after
html_flow_complete_closing_tag_after-keeps = look-state-keeps HtmlFlowCompleteClosingTagAfter html_flow_complete_closing_tag_after_rows refl refl tt

html_flow_complete_end-keeps : KeepsKnowing flow knows_flow html_flow_complete_end
html_flow_complete_end-keeps = look-state-keeps HtmlFlowCompleteEnd html_flow_complete_end_rows refl refl tt

html_flow_complete_attribute_name_before-keeps : KeepsKnowing flow knows_flow html_flow_complete_attribute_name_before
html_flow_complete_attribute_name_before-keeps = look-state-keeps HtmlFlowCompleteAttributeNameBefore html_flow_complete_attribute_name_before_rows refl refl tt

html_flow_complete_attribute_name-keeps : KeepsKnowing flow knows_flow html_flow_complete_attribute_name
html_flow_complete_attribute_name-keeps = look-state-keeps HtmlFlowCompleteAttributeName html_flow_complete_attribute_name_rows refl refl tt

html_flow_complete_attribute_name_after-keeps : KeepsKnowing flow knows_flow html_flow_complete_attribute_name_after
html_flow_complete_attribute_name_after-keeps = look-state-keeps HtmlFlowCompleteAttributeNameAfter html_flow_complete_attribute_name_after_rows refl refl tt

html_flow_complete_attribute_value_before-keeps : KeepsKnowing flow knows_flow html_flow_complete_attribute_value_before
html_flow_complete_attribute_value_before-keeps = look-state-keeps HtmlFlowCompleteAttributeValueBefore html_flow_complete_attribute_value_before_rows refl refl (λ k. refl, (λ k. refl, tt))

html_flow_complete_attribute_value_quoted-keeps : KeepsKnowing flow knows_flow html_flow_complete_attribute_value_quoted
html_flow_complete_attribute_value_quoted-keeps = look-state-keeps HtmlFlowCompleteAttributeValueQuoted html_flow_complete_attribute_value_quoted_rows refl refl tt

html_flow_complete_attribute_value_quoted_after-keeps : KeepsKnowing flow knows_flow html_flow_complete_attribute_value_quoted_after
html_flow_complete_attribute_value_quoted_after-keeps = look-state-keeps HtmlFlowCompleteAttributeValueQuotedAfter html_flow_complete_attribute_value_quoted_after_rows refl refl tt

html_flow_complete_attribute_value_unquoted-keeps : KeepsKnowing flow knows_flow html_flow_complete_attribute_value_unquoted
html_flow_complete_attribute_value_unquoted-keeps = look-state-keeps HtmlFlowCompleteAttributeValueUnquoted html_flow_complete_attribute_value_unquoted_rows refl refl tt

html_flow_complete_after-keeps : KeepsKnowing flow knows_flow html_flow_complete_after
html_flow_complete_after-keeps = look-state-keeps HtmlFlowCompleteAfter html_flow_complete_after_rows refl refl (λ k. refl, (λ k. refl, tt))

html_flow_start-keeps : KeepsKnowing flow knows_flow html_flow_start
html_flow_start-keeps = reading-keeps HtmlFlowStart html_flow_start_rows refl refl tt

html_flow_continuation-keeps : KeepsKnowing flow knows_flow html_flow_continuation
html_flow_continuation-keeps = reading-keeps HtmlFlowContinuation html_flow_continuation_rows refl refl tt

html_flow_continuation_comment_inside-keeps : KeepsKnowing flow knows_flow html_flow_continuation_comment_inside
html_flow_continuation_comment_inside-keeps = reading-keeps HtmlFlowContinuationCommentInside html_flow_continuation_comment_inside_rows refl refl tt

html_flow_continuation_cdata_inside-keeps : KeepsKnowing flow knows_flow html_flow_continuation_cdata_inside
html_flow_continuation_cdata_inside-keeps = reading-keeps HtmlFlowContinuationCdataInside html_flow_continuation_cdata_inside_rows refl refl tt

html_flow_continuation_declaration_inside-keeps : KeepsKnowing flow knows_flow html_flow_continuation_declaration_inside
html_flow_continuation_declaration_inside-keeps = reading-keeps HtmlFlowContinuationDeclarationInside html_flow_continuation_declaration_inside_rows refl refl tt

html_flow_continuation_raw_tag_open-keeps : KeepsKnowing flow knows_flow html_flow_continuation_raw_tag_open
html_flow_continuation_raw_tag_open-keeps = reading-keeps HtmlFlowContinuationRawTagOpen html_flow_continuation_raw_tag_open_rows refl refl (λ k. refl, tt)

html_flow_continuation_raw_end_tag-keeps : KeepsKnowing flow knows_flow html_flow_continuation_raw_end_tag
html_flow_continuation_raw_end_tag-keeps = reading-keeps-spelled HtmlFlowContinuationRawEndTag html_flow_continuation_raw_end_tag_goes_on html_flow_continuation_raw_end_tag_rows refl (λ byte. refl) (λ byte. (λ k. refl, tt)) refl tt

html_flow_continuation_close-keeps : KeepsKnowing flow knows_flow html_flow_continuation_close
html_flow_continuation_close-keeps = reading-keeps HtmlFlowContinuationClose html_flow_continuation_close_rows refl refl tt

html_flow_continuation_before-keeps : KeepsKnowing flow knows_flow html_flow_continuation_before
html_flow_continuation_before-keeps = reading-keeps HtmlFlowContinuationBefore html_flow_continuation_before_rows refl refl tt

html_flow_blank_line_before-keeps : KeepsKnowing flow knows_flow html_flow_blank_line_before
html_flow_blank_line_before-keeps = look-state-keeps HtmlFlowBlankLineBefore html_flow_blank_line_before_rows refl refl tt

html_flow_blank_line_inside-keeps : KeepsKnowing flow knows_flow html_flow_blank_line_inside
html_flow_blank_line_inside-keeps = look-state-keeps HtmlFlowBlankLineInside html_flow_blank_line_inside_rows refl refl tt

html_flow_continuation_after-keeps : KeepsKnowing flow knows_flow html_flow_continuation_after
html_flow_continuation_after-keeps = reading-keeps HtmlFlowContinuationAfter html_flow_continuation_after_rows refl refl tt

html_flow_continuation_start-keeps : KeepsKnowing flow knows_flow html_flow_continuation_start
html_flow_continuation_start-keeps = reading-keeps HtmlFlowContinuationStart html_flow_continuation_start_rows refl refl tt

paragraph_inside-keeps : KeepsKnowing flow knows_flow paragraph_inside
paragraph_inside-keeps = reading-keeps ParagraphInside paragraph_inside_rows refl refl tt

flow_before_heading_setext-keeps : KeepsKnowing flow knows_flow flow_before_heading_setext
flow_before_heading_setext-keeps = look-state-keeps FlowBeforeHeadingSetext flow_before_heading_setext_rows refl refl (λ k. refl, (λ k. refl, (λ k. refl, tt)))

heading_setext_look_after-keeps : KeepsKnowing flow knows_flow heading_setext_look_after
heading_setext_look_after-keeps = look-state-keeps HeadingSetextLookAfter heading_setext_look_after_rows refl refl (λ k. refl, (λ k. refl, (λ k. refl, tt)))

-- the rows of a chunk that begins
abbrev chunk_begins : Rows Unit Unit
chunk_begins =
    when is_connected (row (enter_link Data text_link ∷ links chunk_before last_event ∷ write connected ∷ []) (Retry ParagraphInside))
    (row (enter_link Data text_link ∷ write connected ∷ []) (Retry ParagraphInside))

-- what is known when a call begins is known where its rows begin
module _ (s : Sight) (k : Configuration Unit Unit) where
  -- after a row that no choice follows
  abbrev After : List (Act Unit Unit) → State → Type 0
  After acts answer = KnownAfter flow knows_flow (step_of (record { acts = acts; answer = answer }) s (with_local k (unchanged k.local))) []

  before-first : Knows elsewhere k.events k.local → After (enter Paragraph ∷ write alone ∷ write paragraph_begins ∷ []) (Retry ParagraphStart)
  before-first h =
      let e : Event = record { kind = Enter; name = Paragraph; point = s.enter_place; link = None } in record {
        chunk = λ c. absurd (cc);
        shape = more-shape k.events _ refl refl h.shape;
        resolvers = h.resolvers;
        edits = paragraph-first k.events k.local.map e (length (k.events ++ e ∷ []) - 1) refl refl (last-index k.events e) h.edits;
      }

  paragraph-ends : Knows before_chunk k.events k.local → After (exit Paragraph ∷ []) (Retry FlowAfter)
  paragraph-ends h = record {
    chunk = tt;
    shape = more-shape k.events _ refl refl h.shape;
    resolvers = h.resolvers;
    edits = spans-more k.events k.local.map _ (edits-left before_chunk k.events k.local h.edits);
  }

  -- nothing is done
  stops : (place : Place) → Knows place k.events k.local → After [] Ok
  stops place h = record { chunk = tt; shape = h.shape; resolvers = h.resolvers; edits = edits-left place k.events k.local h.edits }

  goes-on : Knows in_chunk k.events k.local → After [] (Retry ParagraphLineAfter)
  goes-on h = record { chunk = h.chunk; shape = h.shape; resolvers = h.resolvers; edits = h.edits }

  chunk-ends : Knows in_chunk k.events k.local → After (consume ∷ exit Data ∷ []) (Next ParagraphStart)
  chunk-ends h = record {
    chunk = λ c. ended-chunk k.events _ k.local.tokenize_state.start refl refl h.chunk;
    shape = more-shape k.events _ refl refl h.shape;
    resolvers = h.resolvers;
    edits = paragraph-more k.events k.local.map (Data ∷ []) [] k.local.tokenize_state.end _ (λ before. refl) h.edits;
  }

  linked-on : k.local.tokenize_state.connect ≡ true → Knows before_chunk k.events k.local → After (enter_link Data text_link ∷ links chunk_before last_event ∷ write connected ∷ []) (Retry ParagraphInside)
  linked-on c h =
      let place = s.enter_place in
      let start = k.local.tokenize_state.start in
      let e = chunk_enter place in
      let next = length (k.events ++ e ∷ []) - 1 in
      let last = last-index k.events e in record {
        chunk = ends-linked k.events place start next (h.chunk c) last;
        shape = linked-in-shape k.events place start next (h.chunk c) last h.shape;
        resolvers = h.resolvers;
        edits = paragraph-linked (k.events ++ e ∷ []) k.local.map (Data ∷ []) k.local.tokenize_state.end (linked_to start next (k.events ++ e ∷ [])) (linked-unlinked start next (k.events ++ e ∷ []))
            (paragraph-more k.events k.local.map [] (Data ∷ []) k.local.tokenize_state.end e (λ before. refl) h.edits);
      }

  first-chunk : Knows before_chunk k.events k.local → After (enter_link Data text_link ∷ write connected ∷ []) (Retry ParagraphInside)
  first-chunk h =
      let e = chunk_enter s.enter_place in record {
        chunk = ends-with (k.events ++ e ∷ []) k.events e refl (begins-chunk s.enter_place);
        shape = more-shape k.events e refl refl h.shape;
        resolvers = h.resolvers;
        edits = paragraph-more k.events k.local.map [] (Data ∷ []) k.local.tokenize_state.end e (λ before. refl) h.edits;
      }

  -- a paragraph ends, before an underline or not
  both-exits : Knows in_chunk k.events k.local → After (exit Data ∷ exit Paragraph ∷ []) (Retry FlowAfter)
  both-exits h = record {
    chunk = tt;
    shape = more-shape _ _ refl refl (more-shape k.events _ refl refl h.shape);
    resolvers = h.resolvers;
    edits = spans-more _ k.local.map _ (spans-more k.events k.local.map _ (edits-left in_chunk k.events k.local h.edits));
  }

  before-underline : Knows in_chunk k.events k.local → After (exit Data ∷ exit Paragraph ∷ write paragraph_ends ∷ []) (Retry HeadingSetextTextAfter)
  before-underline h =
      let end_of_chunk : Event = record { kind = Exit; name = Data; point = s.exit_place; link = None } in
      let e : Event = record { kind = Exit; name = Paragraph; point = s.exit_place; link = None } in
      let events = k.events ++ end_of_chunk ∷ [] in record {
        chunk = tt;
        shape = more-shape events e refl refl (more-shape k.events end_of_chunk refl refl h.shape);
        resolvers = h.resolvers;
        edits = paragraph-last events k.local.map e k.local.tokenize_state.end (length (events ++ e ∷ []) - 1) refl refl (last-index events e)
            (paragraph-more k.events k.local.map (Data ∷ []) [] k.local.tokenize_state.end end_of_chunk (λ before. refl) h.edits);
      }

  -- the underline is read on, and at its end the paragraph is a heading
  underlined : (names : List EventName) → Knows (in_underline names) k.events k.local → Knows (in_underline names) k.events (unchanged k.local)
  underlined names h = record { chunk = tt; shape = h.shape; resolvers = h.resolvers; edits = h.edits }

  leaves : (place : Place) → Knows place k.events k.local → After [] (Retry FlowAfter)
  leaves place h = record { chunk = tt; shape = h.shape; resolvers = h.resolvers; edits = edits-left place k.events k.local h.edits }

  heading-is-made : Knows (in_underline (HeadingSetextUnderline ∷ [])) k.events k.local → After (exit HeadingSetextUnderline ∷ write heading_ends ∷ []) (Retry FlowAfter)
  heading-is-made h =
      let e : Event = record { kind = Exit; name = HeadingSetextUnderline; point = s.exit_place; link = None } in record {
        chunk = tt;
        shape = more-shape k.events e refl refl h.shape;
        resolvers = h.resolvers;
        edits = heading-made k.events k.local.map k.local.tokenize_state.end k.local.tokenize_state.start e refl refl h.edits;
      }

-- an event comes in an underline
grows : (names names' : List EventName) (events : List Event) (local : Local Unit Unit) (e : Event) → e.link ≡ None → ((before : List EventName) → names_after e.kind e.name (names ++ before) ≡ Some (names' ++ before))
    → Knows (in_underline names) events local → Knows (in_underline names') (events ++ e ∷ []) local
grows names names' events local e alone step h = record {
  chunk = tt;
  shape = more-shape events e (rw alone refl) (rw alone refl) h.shape;
  resolvers = h.resolvers;
  edits = underline-more events local.map names names' local.tokenize_state.end local.tokenize_state.start e step h.edits;
}

-- two events do
grows-twice : (names names' names'' : List EventName) (events : List Event) (local : Local Unit Unit) (e f : Event) → e.link ≡ None → f.link ≡ None
    → ((before : List EventName) → names_after e.kind e.name (names ++ before) ≡ Some (names' ++ before)) → ((before : List EventName) → names_after f.kind f.name (names' ++ before) ≡ Some (names'' ++ before))
    → Knows (in_underline names) events local → Knows (in_underline names'') ((events ++ e ∷ []) ++ f ∷ []) local
grows-twice names names' names'' events local e f alone lone step next h = grows names' names'' (events ++ e ∷ []) local f lone next (grows names names' events local e alone step h)

-- Each row of a state keeps what is known, where no look waits
abbrev Each : Given → Sight → Configuration Unit Unit → Rows Unit Unit → Type 0
Each g s k rows = let k1 = with_local k (unchanged k.local) in EachRow (λ r. KnownAfter flow knows_flow (step_of r s k1) []) g s k1 rows

abbrev EachCase : Given → Sight → Configuration Unit Unit → List (Case FlowByte Unit Unit) → Rows Unit Unit → Type 0
EachCase g s k [] rest = Each g s k rest
EachCase g s k (c ∷ cs) rest = Each g s k c.rows × EachCase g s k cs rest

in-each : (g : Given) (s : Sight) (k : Configuration Unit Unit) (cs : List (Case FlowByte Unit Unit)) (rest : Rows Unit Unit) → EachCase g s k cs rest → (w : FlowByte) → Each g s k (rows_in cs rest w)
in-each g s k [] rest h w = h
in-each g s k (c ∷ cs) rest h w = elim (c.test w) as (λ t. Each g s k (cond t c.rows (rows_in cs rest w))) [
  | true ↦ h.0
  | false ↦ in-each g s k cs rest h.1 w
]

state-keeps : (name : Name) (c : Cased Unit Unit) → is_looking (Retry name) ≡ false
    → ((g : Given) (s : Sight) (k : Configuration Unit Unit) → Knows (place_of (Retry name)) k.events k.local → Each g s k c.at_end × EachCase g s k c.cases c.rest) → Keeps name (cased c)
state-keeps name c reads rows g s k [] b None h = (rows g s k h).0
state-keeps name c reads rows g s k [] b (Some w) h = in-each g s k c.cases c.rest (rows g s k h).1 w
state-keeps name c reads rows g s k (d ∷ []) b w h = absurd (let e : false ≡ true = sym reads ∙ h.0 in cc)
state-keeps name c reads rows g s k (d ∷ e ∷ ds) b w h = absurd h

chunk-begins : (g : Given) (s : Sight) (k : Configuration Unit Unit) → Knows before_chunk k.events k.local → Each g s k chunk_begins
chunk-begins g s k h = ((λ c. linked-on s k c h), (λ c. first-chunk s k h))

-- a paragraph begins: no chunk came before
flow_before_content-keeps : KeepsKnowing flow knows_flow flow_before_content
flow_before_content-keeps = state-keeps FlowBeforeContent flow_before_content_rows refl (λ g s k h. (before-first s k h, before-first s k h))

-- before a chunk: it is linked to the one before, if there is one
paragraph_start-keeps : KeepsKnowing flow knows_flow paragraph_start
paragraph_start-keeps = state-keeps ParagraphStart paragraph_start_rows refl (λ g s k h. (paragraph-ends s k h, (paragraph-ends s k h, chunk-begins g s k h)))

-- a chunk ends with its line ending
paragraph_line_after-keeps : KeepsKnowing flow knows_flow paragraph_line_after
paragraph_line_after-keeps = state-keeps ParagraphLineAfter paragraph_line_after_rows refl (λ g s k h. (stops s k in_chunk h, (chunk-ends s k h, stops s k in_chunk h)))

-- at the end of a line before one of some kind
paragraph_line_start-keeps : KeepsKnowing flow knows_flow paragraph_line_start
paragraph_line_start-keeps = state-keeps ParagraphLineStart paragraph_line_start_rows refl
    (λ g s k h. (stops s k in_chunk h, (((λ c. goes-on s k h), (λ c. ((λ u. before-underline s k h), (λ u. both-exits s k h)))), stops s k in_chunk h)))

-- the states of an underline
heading_setext_text_after-keeps : KeepsKnowing flow knows_flow heading_setext_text_after
heading_setext_text_after-keeps = state-keeps HeadingSetextTextAfter heading_setext_text_after_rows refl (λ g s k h. (
  stops s k (in_underline []) h,
  (grows-twice [] (LineEnding ∷ []) [] k.events (unchanged k.local) _ _ refl refl (λ before. refl) (λ before. refl) (underlined s k [] h), stops s k (in_underline []) h),
))

abbrev in_blank : List EventName
in_blank = SpaceOrTab ∷ HeadingSetextUnderline ∷ []

abbrev in_marks : List EventName
in_marks = Sequence ∷ HeadingSetextUnderline ∷ []

abbrev between : List EventName
between = HeadingSetextUnderline ∷ []

heading_setext_start-keeps : KeepsKnowing flow knows_flow heading_setext_start
heading_setext_start-keeps = state-keeps HeadingSetextStart heading_setext_start_rows refl (λ g s k h. (
  stops s k (in_underline []) h,
  (
    leaves s k (in_underline []) h,
    (
      grows-twice [] between in_blank k.events (unchanged k.local) _ _ refl refl (λ before. refl) (λ before. refl) (underlined s k [] h),
      grows-twice [] between in_marks k.events (unchanged k.local) _ _ refl refl (λ before. refl) (λ before. refl) (underlined s k [] h),
    ),
  ),
))

heading_setext_before-keeps : KeepsKnowing flow knows_flow heading_setext_before
heading_setext_before-keeps = state-keeps HeadingSetextBefore heading_setext_before_rows refl (λ g s k h.
    let left = grows in_blank between k.events (unchanged k.local) _ refl (λ before. refl) (underlined s k in_blank h) in
    (left, (underlined s k in_blank h, left)))

heading_setext_inside-keeps : KeepsKnowing flow knows_flow heading_setext_inside
heading_setext_inside-keeps = state-keeps HeadingSetextInside heading_setext_inside_rows refl (λ g s k h.
    let left = grows in_marks between k.events (unchanged k.local) _ refl (λ before. refl) (underlined s k in_marks h) in
    (left, (underlined s k in_marks h, left)))

heading_setext_after-keeps : KeepsKnowing flow knows_flow heading_setext_after
heading_setext_after-keeps = state-keeps HeadingSetextAfter heading_setext_after_rows refl (λ g s k h. (
  heading-is-made s k h,
  (
    heading-is-made s k h,
    (
      grows between in_blank k.events (unchanged k.local) _ refl (λ before. refl) (underlined s k between h),
      grows between in_marks k.events (unchanged k.local) _ refl (λ before. refl) (underlined s k between h),
    ),
  ),
))

-- there is no chunk at the start
at-starts : (flag : Bool) → let k : Configuration Unit Unit = start_configuration flag in All (λ name. knows_flow k.events k.local [] (Next name)) flow.starts
at-starts flag =
    let k : Configuration Unit Unit = start_configuration flag in
    let P = λ (name : Name). knows_flow k.events k.local [] (Next name) in
    let shape : AreInShape [] = record { inside = All-nil (EndsBelow 0); on = λ i j is. absurd (let same : None ≡ Some j = is in cc); back = λ i j is. absurd (let same : None ≡ Some i = is in cc) } in
    let edits : RenameSpans [] [] = ([], record { events_are = refl; edits_are = refl; no_void = tt }, refl) in
    let nothing : Knows elsewhere [] k.local = record { chunk = tt; shape = shape; resolvers = refl; edits = edits } in
    All-cons P FlowStart (ContentDefinitionBefore ∷ []) nothing (All-cons P ContentDefinitionBefore [] nothing (All-nil P))

-- what is known when a state is fed is known when it is called
by-feeding : (events : List Event) (local : Local Unit Unit) (choices : List Choice) (name : Name) → knows_flow events local choices (Next name) → knows_flow events local choices (Retry name)
by-feeding events local [] name h = h
by-feeding events local (c ∷ []) name h = h
by-feeding events local (c ∷ d ∷ cs) name h = absurd h

-- a look leaves the events, and what states share, as they were

settles : (kind : AttemptKind) (saved : Option Saved) (answer : State) (place : Place) (k : Configuration Unit Unit) → kind ≡ Check → IfSome saved (λ saved. saved.events ≡ length k.events)
    → Knows place k.events k.local → let k' = settled_at kind saved answer k in Knows place k'.events k'.local
settles Attempt saved answer place k check same h = absurd (cc)
settles Check None answer place k check same h = h
settles Check (Some saved) answer place k check same h = let all : take saved.events k.events ≡ k.events = ap (λ n. take n k.events) same ∙ take-length k.events in rw all h

by-ok : (k : Configuration Unit Unit) (choice : Choice) (choices : List Choice) → knows_flow k.events k.local (choice ∷ choices) Ok
    → let k' = settled_at choice.kind choice.saved Ok k in knows_flow k'.events k'.local choices choice.ok
by-ok k choice [] h = settles choice.kind choice.saved Ok (place_of choice.ok) k h.1.checks h.1.saved h.2
by-ok k choice (c ∷ cs) h = absurd h

by-nok : (k : Configuration Unit Unit) (choice : Choice) (choices : List Choice) → knows_flow k.events k.local (choice ∷ choices) Nok
    → let k' = settled_at choice.kind choice.saved Nok k in knows_flow k'.events k'.local choices choice.nok
by-nok k choice [] h = settles choice.kind choice.saved Nok (place_of choice.nok) k h.1.checks h.1.saved (subst (λ p. Knows p k.events k.local) h.1.same h.2)
by-nok k choice (c ∷ cs) h = absurd h

-- once all was read the edits can be made, and the events stay in shape
at-end : (k : Configuration Unit Unit) → IsBalanced k.events → knows_flow k.events k.local [] Ok → (k.local.resolvers ≡ []) × CanBeEdited k × IsInShape (edited k.local.map k.events)
at-end k balanced h =
    let (ts, told, same) = h.edits in
    (h.resolvers, (told-edits-apart ts k.events k.local.map told, h.shape.inside), told-in-shape ts k.events k.local.map told same balanced h.shape.on h.shape.back)

-- and so they are well formed
ends-well-formed : (g : Given) (text : Text) (k : Configuration Unit Unit) → IsWellFormed g k.events → knows_flow k.events k.local [] Ok → IsWellFormed g (edited k.local.map k.events)
ends-well-formed g text k formed h = let (ts, told, same) = h.edits in told-well-formed ts k.events k.local.map told g same formed

pub flow-known : IsKnownThroughout flow knows_flow EndsWellFormed
flow-known = record {
  at_starts = at-starts;
  by_feeding = by-feeding;
  by_rows = (flow_start-keeps, (content_definition_before-keeps, (flow_blank_line_after-keeps, (flow_after-keeps, (flow_blank_line_before-keeps, (paragraph_look_start-keeps, (blank_line_start-keeps, (flow_before_thematic_break-keeps, (thematic_break_before-keeps, (thematic_break_at_break-keeps, (thematic_break_sequence-keeps, (flow_before_heading_atx-keeps, (heading_atx_look_start-keeps, (heading_atx_look_text-keeps, (heading_atx_look_blank-keeps, (heading_atx_look_signs-keeps, (heading_atx_look_after-keeps, (heading_atx_start-keeps, (heading_atx_sequence_open-keeps, (heading_atx_at_break-keeps, (heading_atx_before-keeps, (heading_atx_data-keeps, (code_indented_start-keeps, (code_indented_at_break-keeps, (code_indented_further_after-keeps, (code_indented_inside-keeps, (code_indented_further_start-keeps, (code_indented_line_after-keeps, (code_indented_after-keeps, (code_indented_further_begin-keeps, (flow_before_raw-keeps, (raw_flow_look_info-keeps, (raw_flow_start-keeps, (raw_flow_sequence_open-keeps, (raw_flow_info_before-keeps, (raw_flow_before_sequence_open-keeps, (raw_flow_info-keeps, (raw_flow_info_after-keeps, (raw_flow_meta_before-keeps, (raw_flow_meta-keeps, (raw_flow_at_non_lazy_break-keeps, (raw_flow_close_start-keeps, (raw_flow_before_sequence_close-keeps, (raw_flow_sequence_close-keeps, (raw_flow_after_sequence_close-keeps, (raw_flow_content_before-keeps, (raw_flow_content_start-keeps, (raw_flow_before_content_chunk-keeps, (raw_flow_content_chunk-keeps, (raw_flow_after-keeps, (raw_flow_close_before-keeps, (raw_flow_close_blank-keeps, (raw_flow_close_sequence-keeps, (raw_flow_close_between-keeps, (flow_before_heading_setext-keeps, (heading_setext_look_after-keeps, (heading_setext_text_after-keeps, (heading_setext_start-keeps, (heading_setext_before-keeps, (heading_setext_inside-keeps, (heading_setext_after-keeps, (html_flow_open-keeps, (html_flow_declaration_open-keeps, (html_flow_comment_open_inside-keeps, (html_flow_cdata_open_inside-keeps, (html_flow_tag_close_start-keeps, (html_flow_tag_name-keeps, (html_flow_basic_self_closing-keeps, (html_flow_complete_closing_tag_after-keeps, (html_flow_complete_end-keeps, (html_flow_complete_attribute_name_before-keeps, (html_flow_complete_attribute_name-keeps, (html_flow_complete_attribute_name_after-keeps, (html_flow_complete_attribute_value_before-keeps, (html_flow_complete_attribute_value_quoted-keeps, (html_flow_complete_attribute_value_quoted_after-keeps, (html_flow_complete_attribute_value_unquoted-keeps, (html_flow_complete_after-keeps, (html_flow_start-keeps, (html_flow_continuation-keeps, (html_flow_continuation_comment_inside-keeps, (html_flow_continuation_cdata_inside-keeps, (html_flow_continuation_declaration_inside-keeps, (html_flow_continuation_raw_tag_open-keeps, (html_flow_continuation_raw_end_tag-keeps, (html_flow_continuation_close-keeps, (html_flow_continuation_before-keeps, (html_flow_blank_line_before-keeps, (html_flow_blank_line_inside-keeps, (html_flow_continuation_after-keeps, (html_flow_continuation_start-keeps, (flow_before_content-keeps, (paragraph_start-keeps, (paragraph_inside-keeps, (paragraph_line_start-keeps, (paragraph_line_after-keeps, tt))))))))))))))))))))))))))))))))))))))))))))))))))))))))))))))))))))))))))))))))))))))))))))))));
  by_ok = by-ok;
  by_nok = by-nok;
  at_end = at-end;
  promised = ends-well-formed;
}

-- no choice that waits is an attempt
pub only-checks : KnowsFalling flow knows_flow none
only-checks events local [] state h = tt
only-checks events local (c ∷ []) state h = ((λ e. absurd (let same : Attempt ≡ Check = sym e ∙ h.1.checks in cc)), tt)
only-checks events local (c ∷ d ∷ cs) state h = absurd h
