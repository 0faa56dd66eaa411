-- What the proofs of this crate cite from below them: words of std, of the crates below and of specs.
pub use Rattle.std.proofs.Common.{Bool, Err, List, None, Ok, Option, Result, Some, [], ap, append_assoc, arith, cond, drop, false, get_or, inl, inr, length, map, not, refl, subst, suc, sym, take, true, zero, ℕ, ⊎_elim, ◌*◌, ◌++◌, ◌+◌, ◌-◌, ◌/◌, ◌<◌, ◌==◌, ◌^◌, ◌∙◌, ◌∷◌, ◌≡◌, ◌≤◌, ◌⊎◌}
pub use Rattle.std.proofs.Math.Nat.{le-div_iff_mul-le, mul_comm}
pub use Rattle.std.proofs.Math.Seq.{drop-append-add}
pub use Rattle.std.proofs.lemmas.Bool.{and_parts, cases_Bool, cases_lt, eq-eqb, eqb-true, ne_eqb, or_parts}
pub use Rattle.std.proofs.lemmas.Bool.Decides.{nat_tests}
pub use Rattle.std.proofs.lemmas.Grind.{flat_map-append}
pub use Rattle.std.proofs.lemmas.List.{append-nil, drop-drop, drop-map, drop-take, drop_all, drop_more, length-drop, map-append, take-append-drop}
pub use Rattle.std.proofs.lemmas.List.Elements.{All-from_get_or, All-nil}
pub use Rattle.std.proofs.lemmas.Option.{get_or_from_slice_get, none-some, same_Some, slice_get_within}
pub use Rattle.std.proofs.lemmas.Result.{IfOk-weaker}
pub use Rattle.std.specs.Char.{is_ascii_punctuation}
pub use Rattle.std.specs.List.{AllByRecursion, between, flat_map, position_or_len, prefix_len, range_with_len}
pub use Rattle.std.specs.Option.{option_and_then}
pub use Rattle.std.specs.Prelude.{Contains, IfErr, IfSome, IsErrOf, filter, is_none, nat_le, nat_lt, option_map, slice_get, ◌&&◌, ◌||◌, ◌↔◌, ◌≢◌}
pub use Rattle.markdown_base.proofs.Common.{and-right, drop-next, every-append, every-get, every-map, none-mapped}
pub use Rattle.markdown_base.proofs.Facts.Bools.{and-left}
pub use Rattle.markdown_base.proofs.PointAt.{point-of_reached}
pub use Rattle.markdown_base.proofs.Seats.{end-after-append, stands-self}
pub use Rattle.markdown_base.proofs.Orders.{AreTight, InOrder, order-both, order-from, tight-at, tight-both}
pub use Rattle.markdown_base.specs.Events.{IsBalanced, IsInOrder, IsVoidTight, empty, is_enter, is_void, relinked, same_name, with_ends}
pub use Rattle.markdown_base.specs.Lines.{HasNoLineEnding, is_line_start}
pub use Rattle.markdown_base.specs.Places.{IsPointOf, IsShown, denotes_same, point_at, shown, stands_before}
pub use Rattle.markdown_base.specs.Virtual.{IsTabSize, Seat, begins_with_lf, document_end, end_after, in_tab, point, tab_width, virtual, virtual_from}
pub use Rattle.markdown_base.specs.contracts.event.Content.{the_type}
pub use Rattle.markdown_base.specs.declared.configuration.Constructs.{Constructs}
pub use Rattle.markdown_base.specs.declared.configuration.ParseOptions.{ParseOptions}
pub use Rattle.markdown_base.specs.declared.event.Content.{Content}
pub use Rattle.markdown_base.specs.declared.event.Content.TheVariants.{String as StringContent, Text as TextContent}
pub use Rattle.markdown_base.specs.declared.event.Event.{Event}
pub use Rattle.markdown_base.specs.declared.event.Kind.{Kind}
pub use Rattle.markdown_base.specs.declared.event.Kind.TheVariants.{Enter, Exit}
pub use Rattle.markdown_base.specs.declared.event.Link.{Link}
pub use Rattle.markdown_base.specs.declared.event.Name.TheVariants.{AttentionSequence, Autolink, AutolinkEmail, AutolinkMarker, AutolinkProtocol, CharacterEscape, CharacterEscapeMarker, CharacterEscapeValue, CharacterReference, CharacterReferenceMarker, CharacterReferenceMarkerHexadecimal, CharacterReferenceMarkerNumeric, CharacterReferenceMarkerSemi, CharacterReferenceValue, CodeText, CodeTextData, CodeTextSequence, Data, HardBreakEscape, HardBreakTrailing, HtmlText, HtmlTextData, LineEnding, Paragraph, SpaceOrTab}
pub use Rattle.markdown_base.specs.declared.event.Point.{Point}
pub use Rattle.markdown_base.specs.declared.message.Message.{Message}
pub use Rattle.markdown_base.specs.declared.state.Name.{Name}
pub use Rattle.markdown_base.specs.declared.state.State.{State}
pub use Rattle.markdown_base.specs.declared.state.State.TheVariants.{Error, Next}
pub use Rattle.markdown_base.specs.declared.state.TheConstants.Name.{FlowStart, StringStart, TextStart}
pub use Rattle.markdown_children.proofs.ChainOrder.Following.{by_option, by_test}
pub use Rattle.markdown_children.proofs.ChainOrder.Spaced.{length-map_ends, length-parts}
pub use Rattle.markdown_children.proofs.ChildReads.ChainReads.{Reads, flagged, reads-holds, reads-passed, reads-pushed, reads-range}
pub use Rattle.markdown_children.proofs.Parts.Kept.{after-step, after_changes, between-none, joined, joined-parts, part_after, untagged, untagged-olds}
pub use Rattle.markdown_base.proofs.Facts.Lists.{get-dropped}
pub use Rattle.markdown_children.proofs.Ready.Reached.{line_at-le, reached-at}
pub use Rattle.markdown_children.specs.ByteStarts.{column_at, line_at}
pub use Rattle.markdown_children.specs.Chains.{begins, chain_from, chain_of, content_at, fits, fitting_starts, lets_through, some_fits}
pub use Rattle.markdown_children.specs.Children.{chain_changes, child_changes, first_chunk, part_changes, with_children}
pub use Rattle.markdown_children.specs.Parts.{divided_over, parts}
pub use Rattle.markdown_children.specs.Reads.{AreChildren, Child, IsChild, IsChildRefused, IsSubtokenized, StartAmong, lists, start_name, text_of_chain}
pub use Rattle.markdown_children.specs.Ready.{IsReady, IsShownPlace, place_at}
pub use Rattle.markdown_base.proofs.Balanced.{names_after_all-append, names_after_balanced}
pub use Rattle.markdown_edits.proofs.Edits.Passes.{woven-pass}
pub use Rattle.markdown_edits.specs.Links.{AreMutual, IsChunk, IsLinkedEnter, content_of, next_of, previous_of}
pub use Rattle.markdown_base.specs.OpenNames.{names_after, names_after_all}
pub use Rattle.markdown_edits.specs.Woven.{AreApart, Change, Tagged, placed, placed_end, placed_in, woven}
pub use Rattle.markdown_tokenizer.proofs.Positions.Chains.{IsChain, shown-other, whole-chain}
pub use Rattle.markdown_tokenizer.proofs.Positions.Cursors.{same-self, upto-order}
pub use Rattle.markdown_tokenizer.proofs.Positions.Order.{every-all, every-back, every-front, every-kept}
pub use Rattle.markdown_tokenizer.proofs.Positions.Points.{point_at-is}
pub use Rattle.markdown_tokenizer.proofs.Positions.Seats.{drop-first}
pub use Rattle.markdown_tokenizer.proofs.Positions.Standing.{chain-at, chain-split}
pub use Rattle.markdown_tokenizer.proofs.Runs.Whole.{err-if, found-place}
pub use Rattle.markdown_tokenizer.proofs.Runs.Working.{holds-on, leads-refl, text-on}
pub use Rattle.markdown_tokenizer.specs.AtPlaces.{AreAtPlaces}
pub use Rattle.markdown_tokenizer.specs.Configuration.{Configuration, TokenizerValue, start_configuration, start_seen}
pub use Rattle.markdown_tokenizer.specs.Engine.{IsFlushed, IsRefused, IsRun, IsRunRefused, IsWellFormed, LeadsOn, given_by, whole_text}
pub use Rattle.markdown_tokenizer.specs.Lawful.{KeepsInvariant}
pub use Rattle.markdown_tokenizer.specs.Plain.{HaveNoLinks}
pub use Rattle.markdown_tokenizer.specs.Reading.{EndsIn, Reading}
pub use Rattle.markdown_tokenizer.specs.Resolving.{LeavesEvents}
pub use Rattle.markdown_tokenizer.specs.Rules.{Rules}
pub use Rattle.markdown_tokenizer.specs.Text.{CanFollow, FitsAfter, Given, IsDocument, IsText, Piece, Text, empty_text, followed_by, followed_by_all, in_range, passed, pushed}
pub use Rattle.markdown_tokenizer.specs.declared.subtokenize.Subresult.{Subresult}
pub use Rattle.markdown_tokenizer.specs.declared.tokenizer.fault.Fault.{Fault}
pub use Rattle.markdown_tokenizer.specs.declared.tokenizer.fault.Fault.TheVariants.{Failed, Memory, Message as OfMessage}
pub use Rattle.mdinline_emphasis.proofs.Markers.{takes-some}
pub use Rattle.mdinline_emphasis.proofs.PairsKeep.{pairs-keep}
pub use Rattle.mdinline_emphasis.specs.Beside.{AreBeside, IsBeside}
pub use Rattle.mdinline_emphasis.specs.Emphasis.{Run, closings, data_of, inner_name, later, markers_of, markers_of_all, openings, outer_name, paired, same, sequence_name, tail_events, unlinked_event}
pub use Rattle.mdinline_emphasis.specs.Places.{Standing, markers, standing}
pub use Rattle.mdinline_emphasis.specs.RunEdits.{in_place}
pub use Rattle.mdinline_emphasis.specs.Runs.{is_sequence, marker_from}
pub use Rattle.mdinline_emphasis.specs.declared.pairs.Marker.{Marker}
pub use Rattle.mdinline_emphasis.specs.declared.pairs.Style.{Style}
pub use Rattle.mddocument.specs.ByteRanges.{AreRanges, FollowFrom, IsRangeFrom, is_in, seats_in, text_events_in}
pub use Rattle.mddocument.specs.Documents.{AreEventsOf, AreFlowEvents, AreFlowInlines, ChainsAreReadable, IsReadable, document, options_with, virtual_bytes}
pub use Rattle.mddocument.specs.FlowTextLaws.{InlinesAccount, InlinesAreFormed, InlinesAreRead}
pub use Rattle.mddocument.specs.FlowTexts.{block_texts, flow_inlines, flow_read, inline_seat_events, read_marks}
pub use Rattle.mddocument.specs.Runs.{Gives, GivesDeep, GivesUnready, HasChildren, HasRefusedChild, IsRefusedDeep}
pub use Rattle.mddocument.specs.Tiles.{StandEndToEnd, Tile, TilesDocuments}
pub use Rattle.mddocument.specs.declared.choice.Which.{Which}
pub use Rattle.mddocument.specs.declared.choice.Which.TheVariants.{Back, Deep, Flow, Lines, Paragraphs, Peek, Save}
pub use Rattle.mddocument.specs.declared.making.Unmade.{Unmade}
pub use Rattle.mddocument.specs.declared.making.Unmade.TheVariants.{Fault as OfFault, NotReady}
pub use Rattle.mddocument.specs.declared.ranges.ByteRange.{ByteRange}
pub use Rattle.mdblock_leaf_rows.proofs.NoRefusals.{flow-refuses-nothing}
pub use Rattle.mdblock_leaf_rows.specs.FlowKnows.{flow_rules}
pub use Rattle.mdblock_leaf_blocks.proofs.Lines.Rooms.{has-room}
pub use Rattle.mdblock_leaf_blocks.proofs.Lines.WholeLines.{IsWhole, body-and-last, part-behind, text-and-ending, three-parts, whole-behind, whole-lines, whole-part, whole-text}
pub use Rattle.mdblock_leaf_blocks.proofs.Marks.BlocksFormed.{blocks-are-formed}
pub use Rattle.mdblock_leaf_blocks.proofs.Marks.ChunksJoin.{blocks-join, blocks-meet}
pub use Rattle.mdblock_leaf_blocks.proofs.Marks.Courses.{Course, Place, Track, across-none, course-every, course-here, course-on, course-place, course-upto, line-splits, line-track, text-course, track-on, track-place}
pub use Rattle.mdblock_leaf_blocks.proofs.Marks.Cuts.{leaf-blocks-lines}
pub use Rattle.mdblock_leaf_blocks.proofs.Marks.FullBlocks.{IsFull, StartsText, leaf-blocks-full}
pub use Rattle.mdblock_leaf_blocks.proofs.Marks.LeafSpans.{flow-accounts, setext-body, spans-blocks, spans-of-around}
pub use Rattle.mdblock_leaf_blocks.proofs.Marks.MarkAccounts.{AreSpans, Begins, accounts-kept, bare, linked-spans}
pub use Rattle.mdblock_leaf_blocks.proofs.Marks.MarkChunks.{AreSingle, IsPlain, IsSingle, single-block-marks, single-both, single-data, single-end, single-fenced, single-last, single-leaf, single-sequence, single-span, single-underline}
pub use Rattle.mdblock_leaf_blocks.proofs.Marks.MarkForms.{Formed, name-closed, tight-linked, FormsOver, over-kept, text-formed}
pub use Rattle.mdblock_leaf_blocks.proofs.Marks.Courses.{Place, Track, track-on, track-place, track-upto, whole-track}
pub use Rattle.mdblock_leaf_blocks.proofs.Marks.MarkSpans.{IsKeptBySpans, line-on, over, text-by-chunks}
pub use Rattle.mdblock_leaf_blocks.proofs.Marks.ToldEdits.{first-linked, mark_at}
pub use Rattle.mdblock_leaf_blocks.proofs.Whole.FlowEnds.{flow-ends}
pub use Rattle.mdblock_leaf_blocks.proofs.Whole.WholeFlow.{whole-flow-is-read}
pub use Rattle.mdblock_leaf_blocks.specs.BlockLines.{block_lines}
pub use Rattle.mdblock_leaf_blocks.specs.BlocksRead.{block_seats, last_ending}
pub use Rattle.mdblock_leaf_blocks.specs.ChunksJoin.{AcrossGap, AtOnce, ChunksMeet}
pub use Rattle.mdblock_leaf_blocks.specs.FlowRead.{FlowIsRead}
pub use Rattle.mdblock_leaf_blocks.specs.LeafBlocks.{LeafBlock, Line, atx_heading, blank_line, break_line, fenced_code, html_block, indented_code, leaf_blocks, paragraph, setext_heading}
pub use Rattle.mdblock_leaf_blocks.specs.LeafEvents.{Chunk, Mark, alone, block_around, block_span, body, chunk_span, code_fenced_around, fence_around, fenced_marks, flow_events, heading_around, last_end, leaf_block_marks, leaf_blocks_marks, line_end, linked_from, span_marks, string_chunk, text_chunk, text_marks, underline_marks}
pub use Rattle.mdblock_leaf_blocks.specs.LineKinds.{Fence, heading_text, indent, run, unindented}
pub use Rattle.mdinline_constructs.proofs.Emails.Cuts.{email-cut}
pub use Rattle.mdinline_constructs.proofs.HardBreaks.Cuts.{break-escape-cut, trailing-break-cut}
pub use Rattle.mdinline_constructs.proofs.HtmlMarks.Bytes.{html-mark-cut}
pub use Rattle.mdinline_constructs.proofs.HtmlTags.Bytes.{html-tag-cut}
pub use Rattle.mdinline_constructs.proofs.HtmlTexts.Cuts.{html-there}
pub use Rattle.mdinline_constructs.proofs.References.Bytes.{reference-holds}
pub use Rattle.mdinline_constructs.proofs.References.Cuts.{reference-cut}
pub use Rattle.mdinline_constructs.proofs.WhiteSpaces.Cuts.{white-run-cut, white-space-cut}
pub use Rattle.mdinline_constructs.specs.Email.{email, email_at, email_with, is_at_sign, is_atext, is_domain, is_domain_byte}
pub use Rattle.mdinline_constructs.specs.HardBreak.{break_escape_at, hard_break_escape, hard_break_trailing, trailing_break_at}
pub use Rattle.mdinline_constructs.specs.HtmlMarked.{marked}
pub use Rattle.mdinline_constructs.specs.HtmlTag.{tag_length}
pub use Rattle.mdinline_constructs.specs.HtmlText.{html_of, piece_at, piece_events, piece_length}
pub use Rattle.mdinline_constructs.specs.Reference.{decimal, hexadecimal, mark_events, marks, named, reference_at}
pub use Rattle.mdinline_constructs.specs.WhiteSpace.{is_white_left, white_space, white_space_at}
pub use Rattle.mdinline_machine.proofs.InlineApart.{some-item}
pub use Rattle.mdinline_machine.proofs.InlineBuilt.{all-built, read-alone, read-balanced}
pub use Rattle.mdinline_machine.proofs.InlineChains.{inline-alone, reads-texts}
pub use Rattle.mdinline_machine.proofs.Looks.{inlines-refuse-nothing}
pub use Rattle.mdinline_machine.proofs.StringChains.{reads-strings-of}
pub use Rattle.mdinline_constructs.proofs.StringItems.{string-built}
pub use Rattle.mdinline_machine.proofs.StringRuns.{string-alone}
pub use Rattle.mdinline_machine.specs.InlineEvents.{data_length, data_run, delimiter_run, ends_data, ends_data_at, inline_events, inline_grammars, inline_item_at, inline_items, line_break, read_events, run_length, run_or_part, up_to}
pub use Rattle.mdinline_machine.specs.InlineRules.{inlines_rules}
pub use Rattle.mdinline_machine.specs.RunRows.{begins_run, is_delimiter}
pub use Rattle.mdinline_machine.specs.StringEvents.{string_events, string_seat_events}
pub use Rattle.mdconstructs_machines.proofs.BlockReads.Accounts.{lines-are-all, paragraphs-account}
pub use Rattle.mdconstructs_machines.proofs.Innermost.{enter-more, exit-more, span-more}
pub use Rattle.mdconstructs_machines.proofs.LineReads.Accounts.{lines-account-for}
pub use Rattle.mdconstructs_machines.proofs.LineReads.Back.{back-reads}
pub use Rattle.mdconstructs_machines.proofs.LineReads.Deep.{deep-reads}
pub use Rattle.mdconstructs_machines.proofs.LineReads.Lines.{lines-read}
pub use Rattle.mdconstructs_machines.proofs.LineReads.Peek.{peek-reads}
pub use Rattle.mdconstructs_machines.proofs.LineReads.Save.{save-reads}
pub use Rattle.mdconstructs_machines.proofs.NoRefusals.{back-refuses-nothing, deep-refuses-nothing, lines-refuse-nothing, paragraphs-refuse-nothing, peek-refuses-nothing, save-refuses-nothing}
pub use Rattle.mdconstructs_machines.specs.Back.{back_rules}
pub use Rattle.mdconstructs_tables.specs.Breaks.{is_white}
pub use Rattle.mdconstructs_machines.specs.Deep.{deep_rules}
pub use Rattle.mdconstructs_machines.specs.Innermost.{AccountFor, ended_next, innermost_spans, span_over, stretch_bytes}
pub use Rattle.mdconstructs_tables.proofs.Paragraphs.{paragraphs-fit, paragraphs-known}
pub use Rattle.mdconstructs_machines.specs.LineEvents.{all_of, back_events, data_events, data_line, ending_of, is_line_ending, line_events, line_text, lines_in, paragraph_line, save_events}
pub use Rattle.mdconstructs_machines.specs.Lines.{lines_rules}
pub use Rattle.mdconstructs_machines.specs.ParagraphEvents.{paragraph_events}
pub use Rattle.mdconstructs_tables.specs.Paragraphs.{knows_chunk, paragraphs, paragraphs_rules}
pub use Rattle.mdconstructs_machines.specs.Peek.{peek_rules}
pub use Rattle.mdconstructs_machines.specs.ReadAs.{IsReadAs}
pub use Rattle.mdconstructs_machines.specs.Save.{save_rules}
pub use Rattle.mdconstructs_machines.specs.Spans.{event, leaf, span}
pub use Rattle.mdconstructs_tables.proofs.Tables.Lawful.{knowing-lawful}
pub use Rattle.mdconstructs_tables.proofs.Tables.Refusals.{no-run-refused, none-refused}
pub use Rattle.mdconstructs_tables.specs.Refusals.{RulesRefuseNothing}
pub use Rattle.mdinline_text_machine.proofs.Autolinks.Cuts.{autolink-cut}
pub use Rattle.mdinline_constructs.proofs.RememberedCode.Cuts.{lined-code-cut}
pub use Rattle.mdinline_text_machine.proofs.Constructs.Apart.{EachThere, OfOption, there-holds, when-there}
pub use Rattle.mdinline_text_machine.proofs.DeepSpans.Atoms.{Atom, InOneLine, IsCut, MapCut, OneLine, all_at, atom_events, atom_seats, atoms-more, cut-append, cut-leaf, events_of, map-cut, open-atoms, seats_of}
pub use Rattle.mdinline_text_machine.proofs.DeepSpans.Chunks.{chain-seats, chunk_seats}
pub use Rattle.mdinline_text_machine.proofs.DeepSpans.Places.{chain-from, origin, place-shown, range-of}
pub use Rattle.mdinline_text_machine.proofs.DeepSpans.Stretches.{ItemCut, NoEnding, cuts, first-plain, one-taken, plain-add, plain-line, run-plain}
pub use Rattle.mdinline_text_machine.proofs.Escapes.Cuts.{escape-cut}
pub use Rattle.mdinline_text_machine.proofs.NoRefusals.{text-refuses-nothing}
pub use Rattle.mdinline_text_machine.proofs.ParagraphTexts.Whole.{data-formed, read-as-data, read-as-texts, texts-formed}
pub use Rattle.mdinline_text_machine.proofs.Paragraphs.Blocks.{paragraphs-by-blocks, text-by-blocks}
pub use Rattle.mdinline_text_machine.proofs.Paragraphs.ChainEvents.{chains-read, chains-stand, children-events}
pub use Rattle.mdinline_text_machine.proofs.Paragraphs.ChunkPairs.{place-at-event}
pub use Rattle.mdinline_text_machine.proofs.Paragraphs.DataEvents.{reads-as-data}
pub use Rattle.mdinline_text_machine.proofs.Paragraphs.Formed.{paragraphs-formed}
pub use Rattle.mdinline_text_machine.proofs.Paragraphs.Ready.{paragraphs-readable, text-readable}
pub use Rattle.mdinline_text_machine.proofs.Texts.Built.{flat-built, line-built}
pub use Rattle.mdinline_text_machine.proofs.Texts.Cutting.{drop-less}
pub use Rattle.mdinline_text_machine.proofs.Texts.Ends.{ends-so, from-start, holds-at-end, reads-items, texts-unresolved}
pub use Rattle.mdinline_text_machine.proofs.Texts.Leads.{ending}
pub use Rattle.mdinline_text_machine.proofs.Texts.Steps.{text_step}
pub use Rattle.mdinline_text_machine.proofs.Texts.Tight.{data-tight, tight-kept}
pub use Rattle.mdinline_text_machine.proofs.Texts.WholePlaces.{whole-is-text}
pub use Rattle.mdinline_text_machine.specs.Autolink.{autolink, autolink_at, autolink_to, uri}
pub use Rattle.mdinline_text_machine.specs.Bytes.{backticks, has_byte_at, is_backslash, is_backtick, is_greater_than, is_less_than, is_line_feed, is_space}
pub use Rattle.mdinline_text_machine.specs.ChainTexts.{HasReadableChains, chain_text, with_data, with_read, with_texts}
pub use Rattle.mdinline_constructs.specs.LinedCode.{code_piece_at, code_piece_events, lined_code_at, lined_events}
pub use Rattle.mdinline_text_machine.specs.CodeSpan.{before_backtick_string, code_span_with}
pub use Rattle.mdinline_text_machine.specs.Construct.{Found, Grammar}
pub use Rattle.mdinline_text_machine.specs.Escape.{escape, escape_at}
pub use Rattle.mdinline_text_machine.specs.Items.{item_length}
pub use Rattle.mdinline_text_machine.specs.Laws.Rules.{text-lawful}
pub use Rattle.mdinline_text_machine.specs.ParagraphTexts.{paragraph_texts}
pub use Rattle.mdinline_text_machine.specs.Parts.{Part, bytes_of, cut, first_plain, line_ending, part, part_events, plain_run}
pub use Rattle.mdinline_text_machine.specs.TextEvents.{item_events, seat_events, text_events}
pub use Rattle.mdinline_text_machine.specs.TextRules.{text_rules}
