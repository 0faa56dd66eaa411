-- What the proofs of this crate cite from below them: words of std, of the crates below and of specs.
pub use Rattle.std.proofs.Common.{Bool, List, None, Option, Some, [], ap, append-nil, append_assoc, arith, cond, drop, false, filter, inl, inr, le-ltb, le_trans, length, length-append, length-take, lt-ltb, map, min, nat_le, nat_lt, not, one-add, refl, reverse, subst, suc, sym, take, take-add, true, zero, ℕ, ⊎_elim, ◌%◌, ◌&&◌, ◌*◌, ◌++◌, ◌+◌, ◌-◌, ◌<◌, ◌==◌, ◌^◌, ◌||◌, ◌∙◌, ◌∷◌, ◌≡◌, ◌≤◌, ◌⊎◌}
pub use Rattle.std.proofs.Math.Bool.{and-false, and-true, or-false}
pub use Rattle.std.proofs.Math.Nat.{mul-suc}
pub use Rattle.std.proofs.Math.Seq.{drop-append-add, drop-append_seam, take-append_seam, take-length}
pub use Rattle.std.proofs.lemmas.Bool.{and_from, and_parts, eq-eqb, eqb-true, le-leb, leb-false, leb-true, lt-leb, ltb-false, ltb-true, not-false, not-true, or_from, or_right, and_right, cond_both}
pub use Rattle.std.proofs.lemmas.Bool.Decides.{nat_tests}
pub use Rattle.std.proofs.lemmas.Grind.{flat_map-append, reverse_onto}
pub use Rattle.std.proofs.lemmas.List.{drop-drop, drop-map, drop_all, length-drop, length-map, length-reverse, length-take-le, map-append, reverse-append, reverse-reverse, take-append-drop, append_cancel_left, append_cancel_right}
pub use Rattle.std.proofs.lemmas.List.Elements.{All-cons, All-contains, All-contains_itself, All-from_recursion, All-nil, recursion_from_All}
pub use Rattle.std.proofs.lemmas.List.Folds.{length-prefix_len, list_all-append}
pub use Rattle.std.proofs.lemmas.List.Kept.{AllPairs-cons}
pub use Rattle.std.proofs.lemmas.List.Sums.{prefix_len-le-length}
pub use Rattle.std.proofs.lemmas.Option.{none-some, same_Some, slice_get_within, cond_some}
pub use Rattle.std.specs.Char.{is_ascii_alphabetic, is_ascii_alphanumeric, is_ascii_digit, to_ascii_lowercase}
pub use Rattle.std.specs.List.{AllByRecursion, flat_map, list_all, prefix_len}
pub use Rattle.std.specs.Prelude.{AllPairs, Contains, codes, is_some, option_and_then, option_map, slice_get}
pub use Rattle.std.specs.Str.{str_to_ascii_lowercase}
pub use Rattle.markdown_base.proofs.Common.{drop-next, every-append, every-map}
pub use Rattle.markdown_base.proofs.Seats.{end-after-append, end-after-one, stands-self}
pub use Rattle.markdown_base.specs.Events.{IsVoidTight, is_enter, is_void, relinked, same_name, with_ends}
pub use Rattle.markdown_base.specs.Places.{IsPointOf, IsShown, denotes_same, is_upto, shown, stands_before}
pub use Rattle.markdown_base.specs.Texts.{html_block_names, html_raw_names}
pub use Rattle.markdown_base.specs.Virtual.{Seat, begins_with_lf, end_after, in_tab, point, tab_width, virtual, virtual_from}
pub use Rattle.markdown_base.specs.declared.configuration.Constructs.{Constructs}
pub use Rattle.markdown_base.specs.declared.event.Content.{Content}
pub use Rattle.markdown_base.specs.declared.event.Content.TheVariants.{Text as TextContent}
pub use Rattle.markdown_base.specs.declared.event.Event.{Event}
pub use Rattle.markdown_base.specs.declared.event.Kind.{Kind}
pub use Rattle.markdown_base.specs.declared.event.Kind.TheVariants.{Enter, Exit}
pub use Rattle.markdown_base.specs.declared.event.Link.{Link}
pub use Rattle.markdown_base.specs.declared.event.Name.{Name as EventName}
pub use Rattle.markdown_base.specs.declared.event.Name.TheVariants.{BlankLineEnding, CodeFenced, CodeFencedFence, CodeFencedFenceInfo, CodeFencedFenceMeta, CodeFencedFenceSequence, CodeFlowChunk, CodeIndented, Data, HeadingAtx, HeadingAtxSequence, HeadingAtxText, HeadingSetext, HeadingSetextText, HeadingSetextUnderline, HtmlFlow, HtmlFlowData, LineEnding, Paragraph, SpaceOrTab, ThematicBreak, ThematicBreakSequence as Marks}
pub use Rattle.markdown_base.specs.declared.event.Point.{Point}
pub use Rattle.markdown_base.specs.declared.state.Name.{Name}
pub use Rattle.markdown_base.specs.declared.state.State.{State}
pub use Rattle.markdown_base.specs.declared.state.State.TheVariants.{Next, Nok, Ok, Retry}
pub use Rattle.markdown_base.specs.declared.state.TheConstants.Name.{BlankLineStart, CodeIndentedAfter, CodeIndentedAtBreak, CodeIndentedFurtherAfter, CodeIndentedFurtherBegin, CodeIndentedFurtherStart, CodeIndentedInside, CodeIndentedStart, ContentDefinitionBefore, FlowAfter, FlowBeforeContent, FlowBeforeHeadingAtx, FlowBeforeHeadingSetext, FlowBeforeRaw, FlowBeforeThematicBreak, FlowBlankLineAfter, FlowBlankLineBefore, FlowStart, HeadingAtxAtBreak, HeadingAtxBefore, HeadingAtxData, HeadingAtxSequenceOpen, HeadingAtxStart, HeadingSetextAfter, HeadingSetextBefore, HeadingSetextInside, HeadingSetextStart, HtmlFlowBasicSelfClosing, HtmlFlowBlankLineBefore, HtmlFlowCdataOpenInside, HtmlFlowCommentOpenInside, HtmlFlowCompleteAfter, HtmlFlowCompleteAttributeName, HtmlFlowCompleteAttributeNameAfter, HtmlFlowCompleteAttributeNameBefore, HtmlFlowCompleteAttributeValueBefore, HtmlFlowCompleteAttributeValueQuoted, HtmlFlowCompleteAttributeValueQuotedAfter, HtmlFlowCompleteAttributeValueUnquoted, HtmlFlowCompleteClosingTagAfter, HtmlFlowCompleteEnd, HtmlFlowContinuation, HtmlFlowContinuationAfter, HtmlFlowContinuationBefore, HtmlFlowContinuationCdataInside, HtmlFlowContinuationClose, HtmlFlowContinuationCommentInside, HtmlFlowContinuationDeclarationInside, HtmlFlowContinuationRawEndTag, HtmlFlowContinuationRawTagOpen, HtmlFlowContinuationStart, HtmlFlowDeclarationOpen, HtmlFlowOpen, HtmlFlowStart, HtmlFlowTagCloseStart, HtmlFlowTagName, ParagraphInside, ParagraphLineStart, ParagraphStart, RawFlowAfter, RawFlowAfterSequenceClose, RawFlowAtNonLazyBreak, RawFlowBeforeContentChunk, RawFlowBeforeSequenceClose, RawFlowBeforeSequenceOpen, RawFlowCloseStart, RawFlowContentBefore, RawFlowContentChunk, RawFlowContentStart, RawFlowInfo, RawFlowInfoBefore, RawFlowMeta, RawFlowMetaBefore, RawFlowSequenceClose, RawFlowSequenceOpen, RawFlowStart, ThematicBreakAtBreak, ThematicBreakBefore, ThematicBreakSequence}
pub use Rattle.markdown_base.proofs.Balanced.{balanced_from_open, names_after_all-append, same_name-refl}
pub use Rattle.markdown_edits.proofs.Edits.Passes.{AreApart, events_at-none, is_removed-none, woven-at}
pub use Rattle.markdown_edits.proofs.Edits.Splices.{AreApart-edits}
pub use Rattle.markdown_edits.proofs.Edits.Survivors.{slice_get-behind}
pub use Rattle.markdown_edits.specs.Edited.{as_addition, as_change, edited}
pub use Rattle.markdown_edits.specs.Edits.{AreDisjoint, Edit, added_after, edit_at}
pub use Rattle.markdown_edits.specs.Links.{IsLinkedEnter, linked_to, next_of, previous_of, updated_at, with_next, with_previous}
pub use Rattle.markdown_base.specs.OpenNames.{names_after, names_after_all}
pub use Rattle.markdown_edits.specs.Woven.{Tagged, as_listed, of_list, place_in, placed_end, woven}
pub use Rattle.markdown_tokenizer.proofs.Inside.Made.{upto-upto}
pub use Rattle.markdown_tokenizer.proofs.Positions.Chains.{IsChain, whole-chain}
pub use Rattle.markdown_tokenizer.proofs.Positions.Order.{every-back, every-front, after-before}
pub use Rattle.markdown_tokenizer.proofs.Positions.SeatLaws.{after-is-point}
pub use Rattle.markdown_tokenizer.proofs.Positions.Standing.{chain-at, chain-upto, place-after, place-of-point, rest-after, shown-shown}
pub use Rattle.markdown_tokenizer.proofs.Readings.Bounds.{called-ends, fed-ends, one-end, settled-nok-ends, settled-ok-ends}
pub use Rattle.markdown_tokenizer.specs.Calls.{check_at, consumed, entered, exited, linked, with_local, with_resolvers}
pub use Rattle.markdown_tokenizer.specs.Configuration.{Choice, Configuration, Local, Step, start_configuration}
pub use Rattle.markdown_tokenizer.specs.Engine.{IsWellFormed}
pub use Rattle.markdown_tokenizer.specs.Reading.{EndsIn, Reading, fed, restored}
pub use Rattle.markdown_tokenizer.specs.Resolving.{IsResolved, done, edits_made, found, resolved_by, taken}
pub use Rattle.markdown_tokenizer.specs.Sight.{Sight, byte_of, current_of, end_or, end_place, next_place, point_of, point_or, seat_before, sight, sight_in}
pub use Rattle.markdown_tokenizer.specs.Text.{CanFollow, FitsAfter, Given, IsDocument, IsText, Piece, Text, empty_text, followed_by, followed_by_all, passed, pushed, in_range}
pub use Rattle.markdown_tokenizer.specs.declared.subtokenize.Subresult.{Subresult}
pub use Rattle.markdown_tokenizer.specs.declared.waiting.AttemptKind.TheVariants.{Check}
pub use Rattle.markdown_tokenizer.specs.declared.waiting.Waits.{Waits}
pub use Rattle.markdown_tokenizer.specs.declared.waiting.Waits.TheVariants.{Byte, End, Nothing}
pub use Rattle.mdblock_leaf_rows.proofs.TagNames.{block-told, raw-told, letter-is}
pub use Rattle.mdblock_leaf_rows.specs.CodeFenced.{fence_ends, flow_before_raw_rows, raw_flow_after_rows, raw_flow_after_sequence_close_rows, raw_flow_at_non_lazy_break, raw_flow_at_non_lazy_break_rows, raw_flow_before_content_chunk_rows, raw_flow_before_sequence_close_rows, raw_flow_close_before_rows, raw_flow_close_between_rows, raw_flow_close_sequence_rows, raw_flow_close_start_rows, raw_flow_content_before_rows, raw_flow_content_start_rows, raw_flow_info_before_rows, raw_flow_info_rows, raw_flow_look_info_rows, raw_flow_meta_before_rows, raw_flow_sequence_close_rows, raw_flow_sequence_open_rows, raw_flow_start_rows}
pub use Rattle.mdblock_leaf_rows.specs.CodeIndented.{code_indented_inside}
pub use Rattle.mdblock_leaf_rows.specs.Flow.{blank_begins_line, content_definition_before, flow_after, flow_blank_line_after, flow_blank_line_after_rows, flow_start, flow_start_rows, mark_begins_line}
pub use Rattle.mdblock_leaf_rows.specs.FlowBytes.{Cased, FlowByte, begins_name, begins_no_value, blank, by_byte, cased, closing, dash, equals, flow_byte, greater, is_bang, is_blank, is_blank as is_blank_class, is_closing, is_dash, is_double, is_equals, is_fence, is_greater, is_in_name, is_in_no_value, is_less, is_letter, is_line_feed, is_opening, is_question, is_quote, is_rule, is_sign, is_sign as is_sign_class, is_single, is_slash, is_star, is_tick, is_tilde, is_underscore, less, line_feed, name_byte, other, question, sign, spelled, star, tick, tilde, underscore, word_byte}
pub use Rattle.mdblock_leaf_rows.specs.FlowKnows.{flow_rules}
pub use Rattle.mdblock_leaf_rows.specs.FlowTable.{flow, unchanged}
pub use Rattle.mdblock_leaf_rows.specs.FlowWrites.{at_mark, breaks_are_on, count_becomes, count_grows, counts_to_four, fences_are_on, has_room, has_three, headings_are_on, indent_becomes, indent_grows, is_as_long, is_byte, is_tilde_fence, kind_becomes, mark_becomes, may_be_indented, signs_end, signs_were_text, size_becomes, size_grows, string_link, text_grows, underlines_are_on}
pub use Rattle.mdblock_leaf_rows.specs.HeadingAtx.{flow_before_heading_atx_rows, heading_atx_look_after_rows, heading_atx_look_blank_rows, heading_atx_look_signs_rows, heading_atx_look_start_rows, heading_atx_look_text_rows, text_goes_on, text_or_signs}
pub use Rattle.mdblock_leaf_rows.specs.HeadingEdits.{heading_ends, paragraph_begins, paragraph_ends, renaming, under, with_names}
pub use Rattle.mdblock_leaf_rows.specs.HeadingSetext.{flow_before_heading_setext_rows, further_dash, heading_setext_after_rows, heading_setext_look_after_rows, heading_setext_start_rows}
pub use Rattle.mdblock_leaf_rows.specs.HtmlFlow.{html_flow_blank_line_before_rows, html_flow_continuation, html_flow_continuation_after_rows, html_flow_continuation_before_rows, html_flow_continuation_cdata_inside_rows, html_flow_continuation_close_rows, html_flow_continuation_comment_inside_rows, html_flow_continuation_declaration_inside_rows, html_flow_continuation_raw_end_tag_goes_on, html_flow_continuation_raw_end_tag_rows, html_flow_continuation_raw_tag_open_rows, html_flow_continuation_rows, html_flow_continuation_start_rows, html_flow_start_rows}
pub use Rattle.mdblock_leaf_rows.specs.HtmlNames.{AreToldApart, IsListed, is_number_in, is_tag_name, no_name, number_behind, number_of, one_byte_more}
pub use Rattle.mdblock_leaf_rows.specs.HtmlTags.{html_flow_basic_self_closing_rows, html_flow_cdata_open_inside_rows, html_flow_comment_open_inside_rows, html_flow_complete_after_rows, html_flow_complete_attribute_name_after_rows, html_flow_complete_attribute_name_before_rows, html_flow_complete_attribute_name_rows, html_flow_complete_attribute_value_before_rows, html_flow_complete_attribute_value_quoted_after_rows, html_flow_complete_attribute_value_quoted_rows, html_flow_complete_attribute_value_unquoted_rows, html_flow_complete_closing_tag_after_rows, html_flow_complete_end_rows, html_flow_declaration_open_rows, html_flow_open_rows, html_flow_tag_close_start_rows, html_flow_tag_name_goes_on, html_flow_tag_name_rows}
pub use Rattle.mdblock_leaf_rows.specs.HtmlWrites.{at_cdata, cdata_byte, closes_tag, html_becomes, html_is, html_is_on, is_block_tag, is_raw_tag, name_grows, opens_raw, raw_name_grows, tag_closes}
pub use Rattle.mdblock_leaf_rows.specs.Laws.Headings.{added-last, below-more}
pub use Rattle.mdblock_leaf_rows.specs.Laws.Measures.{word-is-word, word-no-feed}
pub use Rattle.mdblock_leaf_rows.specs.Laws.Renamings.{told-apart}
pub use Rattle.mdblock_leaf_rows.specs.Look.{break_may_begin, dash_may_begin, equals_may_begin, fence_may_begin, flow_blank_line_before_rows, heading_may_begin, html_may_begin, paragraph_look_start_rows, text_may_begin, underline_may_begin}
pub use Rattle.mdblock_leaf_rows.specs.Paragraph.{flow_before_content_rows, paragraph_inside, paragraph_inside_rows, paragraph_line_after_rows, paragraph_line_start_rows, paragraph_start_rows}
pub use Rattle.mdblock_leaf_rows.specs.Renamings.{Told, edits_from, kept as as_told, renamed}
pub use Rattle.mdblock_leaf_rows.specs.ThematicBreak.{flow_before_thematic_break_rows, thematic_break_at_break_rows}
pub use Rattle.mdblock_leaf_rows.specs.declared.names.TheConstants.{CodeIndentedLineAfter, HeadingAtxLookAfter, HeadingAtxLookBlank, HeadingAtxLookSigns, HeadingAtxLookStart, HeadingAtxLookText, HeadingSetextLookAfter, HeadingSetextTextAfter, HtmlFlowBlankLineInside, ParagraphLineAfter, ParagraphLookStart, RawFlowCloseBefore, RawFlowCloseBetween, RawFlowCloseBlank, RawFlowCloseSequence, RawFlowInfoAfter, RawFlowLookInfo}
pub use Rattle.mdblock_leaf_blocks.specs.BlockLines.{LinesAreInBlocks, block_lines}
pub use Rattle.mdblock_leaf_blocks.specs.BlocksFormed.{BlocksAreFormed}
pub use Rattle.mdblock_leaf_blocks.specs.BlocksRead.{AddsEdits, AreLines, BlankLinesAreRead, BreaksAreRead, FencedCodeIsRead, HeadingsAreRead, HtmlIsRead, IndentedCodeIsRead, IsAtLines, IsBlockRead, IsFound, IsLine, IsReadAs, KeepsEdits, ParagraphsAreRead, SetextHeadingsAreRead, behind_block, block_seats, heading_told, is_underlined, last_ending, paragraph_told, underline_told, waits_then}
pub use Rattle.mdblock_leaf_blocks.specs.BlocksTold.{EditsMakeBlocks, block_told, blocks_told, flow_told}
pub use Rattle.mdblock_leaf_blocks.specs.ChunksJoin.{AcrossGap, AtOnce, BlocksJoin, BlocksMeet, ChunksMeet, IsDirectlyBehind}
pub use Rattle.mdblock_leaf_blocks.specs.FlowAccounts.{FlowAccounts}
pub use Rattle.mdblock_leaf_blocks.specs.FlowEnds.{FlowEnds}
pub use Rattle.mdblock_leaf_blocks.specs.FlowRead.{FlowIsRead, IsToldAs}
pub use Rattle.mdblock_leaf_blocks.specs.HtmlLines.{HtmlKind, any_tag, begins, begins_attribute, behind_attribute, behind_name, behind_quote, behind_value, block_tag, cdata, comment, declaration, ends, ends_name, ends_open_tag, ends_tag, first_passes, goes_on_attribute, holds, html_kind, instruction, is_bare, is_block_name, is_closing_tag, is_named, is_open_tag, lower, name_at, raw, starts_with, tag_name, waits_for_blank}
pub use Rattle.mdblock_leaf_blocks.specs.LeafBlocks.{LeafBlock, Line, atx_heading, blank_line, block_of_kind, blocks_in, break_line, bytes_of, content_at, ends_text, fenced_code, further_code, has_line, html_block, html_block_at, indented_code, interrupts, is_indented, leaf_blocks, lines_through, lines_until, paragraph, setext_heading, text_of, underlined}
pub use Rattle.mdblock_leaf_blocks.specs.LeafEvents.{Chunk, Mark, alone, block_around, block_span, body, break_marks, chunk_span, code_fenced_around, code_fenced_marks, code_marks, fence_around, fence_marks, fenced_marks, flow_events, heading_around, heading_marks, html_marks, last_end, leaf_block_marks, leaf_blocks_marks, leaf_marks, line_end, lines_marks, linked_from, sequence_marks, span_marks, string_chunk, text_chunk, text_marks, underline_inside, underline_marks, white}
pub use Rattle.mdblock_leaf_blocks.specs.LineKinds.{Fence, LineKind, begins_with, closes, heading_text, indent, indented, is_atx_heading, is_blank_line, is_break_of_marks, is_far, is_fence_of, is_thematic_break, is_underline_of_marks, kind_of_rest, line_kind, run, trimmed, underline_rank, unindented}
pub use Rattle.mdblock_leaf_blocks.specs.LooksFind.{Finds, FindsHtml, HtmlIsSeen, IsInLine, LeavesAll, LineEnds, LinesAreSeen, text_behind_signs}
pub use Rattle.mdblock_leaf_blocks.specs.SeenKinds.{SeenKind, as_seen, fence, heading, html, html_number, is_underline, number, seen_ends, seen_kind, text, thematic_break, underline}
pub use Rattle.mdblock_leaf_blocks.specs.ToldChunks.{ChunksStand, EditsGiveNames, TwoAreKept}
pub use Rattle.mdblock_leaf_blocks.specs.ToldMarks.{ToldMark, as_it_is, before_edits, behind_edits, mark_before, marks_behind, told_edits, under_names}
pub use Rattle.mdconstructs_machines.proofs.BlockReads.Accounts.{lines-are-all}
pub use Rattle.mdconstructs_machines.proofs.Innermost.{enter-more, exit-more, span-more}
pub use Rattle.mdconstructs_tables.specs.Breaks.{is_white, one_more}
pub use Rattle.mdconstructs_machines.specs.Innermost.{AccountFor, ended_next, innermost_spans}
pub use Rattle.mdconstructs_machines.specs.LineEvents.{all_of, ending_of, is_line_ending, joined, line_text, lines_in}
pub use Rattle.mdconstructs_tables.specs.Paragraphs.{text_link}
pub use Rattle.mdconstructs_machines.specs.Spans.{event}
pub use Rattle.mdconstructs_tables.proofs.Cases.{at-byte}
pub use Rattle.mdconstructs_tables.proofs.Looks.Deep.{Leads, Leads as LeadsIn}
pub use Rattle.mdconstructs_tables.proofs.Looks.Left.{at-front, past-end}
pub use Rattle.mdconstructs_tables.proofs.Looks.Scans.{feeds, goes-called, scan-goes, sees}
pub use Rattle.mdconstructs_tables.proofs.Looks.Stretches.{stretches-are-read, sees-at}
pub use Rattle.mdconstructs_tables.proofs.Looks.Tests.{told, told_by}
pub use Rattle.mdconstructs_tables.specs.Cases.{AreTestsOf, Case, at, rows_at_byte, rows_in}
pub use Rattle.mdconstructs_tables.specs.Chunks.{chunk_before, connected, is_connected, last_event}
pub use Rattle.mdconstructs_tables.specs.Looks.{Glance, Look, behind_byte, by_row, first_byte, glance, goes_on, held, is_over, looked, looked_on, one_more as one_call, scan, shows, uncalled, unfed_look, waits_at}
pub use Rattle.mdconstructs_tables.specs.Rows.{Act, Row, Rows, StateRows, Table, choose, chooses, class_of, consume, does, enter, enter_link, enter_noted, enters, exit, exit_noted, links, note, named, past, picked, row, step_at, step_of, table_step, when, write, writes}
pub use Rattle.mdconstructs_tables.specs.Stretches.{Halt, ahead, fed_before, halt, one_call_more, over, reads_byte, row_comes_to, sight_before, stretch, stretch_from, to_come}
pub use Rattle.markdown_base.proofs.Facts.Bools.{cond-and, cond-itself, cond-same}
pub use Rattle.markdown_base.proofs.Facts.Numbers.{eq-flip, unlike}
