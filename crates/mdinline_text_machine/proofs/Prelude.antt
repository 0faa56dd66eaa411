-- What the proofs of this crate cite from below them: words of std, of the crates below and of specs.
pub use Rattle.std.proofs.Common.{Bool, List, None, Option, Some, [], add_assoc, ap, arith, cond, drop, false, inl, inr, length, length-append, max, nat_le, nat_lt, not, option_map, refl, rules, slice_get, subst, suc, sym, take, true, zero, ℕ, ⊎_elim, ◌%◌, ◌&&◌, ◌*◌, ◌++◌, ◌+◌, ◌-◌, ◌<◌, ◌==◌, ◌^◌, ◌||◌, ◌∙◌, ◌∷◌, ◌≡◌, ◌≤◌, ◌⊎◌}
pub use Rattle.std.proofs.Math.Bool.{and-false, and-true}
pub use Rattle.std.proofs.Math.Nat.{mul-suc}
pub use Rattle.std.proofs.Math.Seq.{take-append_seam, take-suc}
pub use Rattle.std.proofs.lemmas.Bool.{and_parts, cases_lt, eqb-true, lt-ltb, not-false, not-true}
pub use Rattle.std.proofs.lemmas.Bool.Decides.{nat_tests}
pub use Rattle.std.proofs.lemmas.Grind.{flat_map-append}
pub use Rattle.std.proofs.lemmas.List.{append-nil, append_assoc, append_cancel_left, append_cancel_right, drop-drop, drop-map, drop-take, drop_at, length-drop, length-map, length-take, length-take-le, map-append, take-append-drop, take-map, take-take, take_at}
pub use Rattle.std.proofs.lemmas.List.Elements.{All-from_get_or, All-from_recursion, filter-append}
pub use Rattle.std.proofs.lemmas.List.Folds.{length-prefix_len}
pub use Rattle.std.proofs.lemmas.List.Kept.{AllPairs-cons}
pub use Rattle.std.proofs.lemmas.List.Sums.{count_by-le-length, length-filter, prefix_len-le-length, take_while-cons}
pub use Rattle.std.proofs.lemmas.Option.{get_or_from_slice_get, slice_get_within}
pub use Rattle.std.proofs.lemmas.Slice.{between_is}
pub use Rattle.std.specs.Char.{is_ascii_alphabetic, is_ascii_alphanumeric, is_ascii_punctuation}
pub use Rattle.std.specs.List.{AllByRecursion, between, find, flat_map, last_or, list_all, position_or_len, prefix_len, range_with_len}
pub use Rattle.std.specs.Prelude.{AllPairs, Contains, codes, filter, is_some, map, option_and_then, replicate, unwrap_or}
pub use Rattle.markdown_base.proofs.Common.{and-right, drop-at, drop-next, every-append, every-filter, every-get, every-map, filter-none, get-front, or-leads}
pub use Rattle.markdown_base.proofs.Seats.{end-after-append, end-after-one}
pub use Rattle.markdown_base.specs.Events.{IsBalanced, IsInOrder, IsVoidTight, empty, is_enter, is_void, span}
pub use Rattle.markdown_base.specs.Places.{IsPointOf, IsShown, denotes_same, in_range, is_upto, shown, stands_before}
pub use Rattle.markdown_base.specs.Presets.{default_constructs, default_parse_options}
pub use Rattle.markdown_base.specs.Virtual.{IsTabSize, Seat, begins_with_lf, document_end, end_after, in_tab, point, tab_width, virtual, virtual_from}
pub use Rattle.markdown_base.specs.declared.configuration.Constructs.{Constructs}
pub use Rattle.markdown_base.specs.declared.event.Content.{Content}
pub use Rattle.markdown_base.specs.declared.event.Content.TheVariants.{Flow}
pub use Rattle.markdown_base.specs.declared.event.Event.{Event}
pub use Rattle.markdown_base.specs.declared.event.Kind.{Kind}
pub use Rattle.markdown_base.specs.declared.event.Kind.TheVariants.{Enter, Exit}
pub use Rattle.markdown_base.specs.declared.event.Link.{Link}
pub use Rattle.markdown_base.specs.declared.event.Name.TheVariants.{Autolink, AutolinkMarker, AutolinkProtocol, BlankLineEnding, BlockQuoteMarker, CharacterEscape, CharacterEscapeMarker, CharacterEscapeValue, CodeText, CodeTextData, CodeTextSequence, Data, LineEnding, Paragraph}
pub use Rattle.markdown_base.specs.declared.event.Point.{Point}
pub use Rattle.markdown_base.specs.declared.state.Name.{Name}
pub use Rattle.markdown_base.specs.declared.state.State.{State}
pub use Rattle.markdown_base.specs.declared.state.State.TheVariants.{Error, Next, Nok, Ok, Retry}
pub use Rattle.markdown_base.specs.declared.state.TheConstants.Name.{AutolinkOpen, AutolinkSchemeInsideOrEmailAtext, AutolinkStart, AutolinkUrlInside, CharacterEscapeInside, CharacterEscapeStart, DataAtBreak, DataInside, DataStart, FlowStart, ParagraphInside, ParagraphLineStart, ParagraphStart, RawTextBetween, RawTextData, RawTextSequenceClose, RawTextSequenceOpen, RawTextStart, TextBefore, TextBeforeData, TextStart}
pub use Rattle.mdinline_text_machine.specs.declared.names.TheConstants.{RawTextAfter, RawTextBackticksInside, RawTextBackticksStart}
pub use Rattle.markdown_children.proofs.ChainOrder.Following.{chunk, fits_next, follow_one_another, starts_fit, whole-from}
pub use Rattle.markdown_children.proofs.ChainOrder.Forward.{begins-fits}
pub use Rattle.markdown_children.proofs.ChainOrder.Spaced.{changes_are_apart}
pub use Rattle.markdown_children.proofs.ChildReads.Pieces.{chunks_can_be_read}
pub use Rattle.markdown_children.proofs.Parts.Kept.{after_changes, joined-parts, split-at, untagged, untagged-olds}
pub use Rattle.markdown_children.specs.Chains.{begins, chain_of, content_at, fits, fitting_starts, some_fits}
pub use Rattle.markdown_children.specs.Children.{chain_changes, child_changes, part_changes, with_children}
pub use Rattle.markdown_children.specs.LawStatements.{AreSpaced, IsWholeFrom, LeadOnFrom}
pub use Rattle.markdown_children.specs.Parts.{divided_over, front_until, parts}
pub use Rattle.markdown_children.specs.Reads.{AreChildren, Child, IsChild, lists, pieces_behind, pieces_of, start_name, text_of_chain}
pub use Rattle.markdown_children.specs.Ready.{IsChunk, IsReady, IsShownPlace, place_at}
pub use Rattle.markdown_base.proofs.Balanced.{IsBalanced-append}
pub use Rattle.markdown_edits.proofs.Edits.Passes.{woven-pass}
pub use Rattle.markdown_edits.proofs.Edits.Splices.{edited-none}
pub use Rattle.markdown_edits.proofs.LinkEnds.{updated-length}
pub use Rattle.markdown_edits.specs.Edited.{edited}
pub use Rattle.markdown_edits.specs.Links.{AreMutual, IsLinkedEnter, content_of, linked_to, next_of, next_set, previous_set, updated_at, with_next, with_previous}
pub use Rattle.markdown_edits.specs.Woven.{AreApart, Change, Tagged, placed_in, woven}
pub use Rattle.markdown_tokenizer.proofs.Inside.Made.{upto-upto}
pub use Rattle.markdown_tokenizer.proofs.Positions.Chains.{IsChain, whole-chain}
pub use Rattle.markdown_tokenizer.proofs.Positions.Cursors.{left_of, range-empty, same-before, same-self, text-splits, upto-order, upto-self}
pub use Rattle.markdown_tokenizer.proofs.Positions.Order.{after-before, before-self, before-upto, every-all, every-back, every-front, filter-every, filter-same, later-later, not-before, upto-before}
pub use Rattle.markdown_tokenizer.proofs.Positions.Points.{same-shown, shown-column, shown-line}
pub use Rattle.markdown_tokenizer.proofs.Positions.SeatLaws.{end-is-point, end-of-is-point, get-among}
pub use Rattle.markdown_tokenizer.proofs.Positions.Seats.{rest-later}
pub use Rattle.markdown_tokenizer.proofs.Positions.Standing.{after-shown, chain-at, chain-split, chain-upto, place-after, place-of-point, rest-after, shown-shown}
pub use Rattle.markdown_tokenizer.proofs.Readings.Bounds.{fed-ends, one-end, settled-ok-ends}
pub use Rattle.markdown_tokenizer.proofs.Readings.Plain.{edited-same, no-links-shape}
pub use Rattle.markdown_tokenizer.proofs.Runs.Whole.{start-is-point, start-upto}
pub use Rattle.markdown_tokenizer.proofs.Runs.Working.{text-on}
pub use Rattle.markdown_tokenizer.specs.AtPlaces.{AreAtPlaces}
pub use Rattle.markdown_tokenizer.specs.Calls.{with_local, with_resolvers}
pub use Rattle.markdown_tokenizer.specs.Configuration.{Choice, Configuration, Local, Step, start_configuration}
pub use Rattle.markdown_tokenizer.specs.Cursor.{IsPlace, end_at, goes_on, rest_at}
pub use Rattle.markdown_tokenizer.specs.Engine.{given_by, whole_text}
pub use Rattle.markdown_tokenizer.specs.Lawful.{KeepsInvariant}
pub use Rattle.markdown_tokenizer.specs.Reading.{EndsIn, Reading, fed, settled_at}
pub use Rattle.markdown_tokenizer.specs.Resolving.{IsResolved, LeavesEvents, done, edits_made, found, resolved_by, taken}
pub use Rattle.markdown_tokenizer.specs.Rules.{Rules}
pub use Rattle.markdown_tokenizer.specs.Sight.{Sight, byte_of, current_of, end_or, end_place, next_place, point_of, point_or, seat_before, sight, sight_of}
pub use Rattle.markdown_tokenizer.specs.Text.{CanFollow, FitsAfter, Given, IsDocument, IsText, Piece, Text, empty_text, followed_by, followed_by_all, passed, pushed}
pub use Rattle.markdown_tokenizer.specs.declared.subtokenize.Subresult.{Subresult}
pub use Rattle.markdown_tokenizer.specs.declared.waiting.AttemptKind.TheVariants.{Attempt}
pub use Rattle.markdown_tokenizer.specs.declared.waiting.Waits.{Waits}
pub use Rattle.markdown_tokenizer.specs.declared.waiting.Waits.TheVariants.{Byte, End, Nothing}
pub use Rattle.mdconstructs_machines.proofs.BlockReads.Accounts.{block_bytes, blocks-accounted, blocks-are-all, line-is, lines-are-all, linked, paragraphs-account}
pub use Rattle.mdconstructs_machines.proofs.BlockReads.Whole.{blocks-read, reads-whole}
pub use Rattle.mdconstructs_machines.proofs.Innermost.{enter-more, exit-more, span-more}
pub use Rattle.mdconstructs_machines.proofs.LineReads.Accounts.{both}
pub use Rattle.mdconstructs_machines.proofs.LineReads.Data.{data-read}
pub use Rattle.mdconstructs_machines.proofs.LineReads.Rows.{line-ending-read, row_step, waits_class}
pub use Rattle.mdconstructs_machines.proofs.LineReads.Steps.{at-front, held}
pub use Rattle.mdconstructs_machines.specs.Innermost.{AccountFor, ended_next, innermost_spans, span_over, stretch_bytes}
pub use Rattle.mdconstructs_tables.proofs.Paragraphs.{begins-chunk, can-follow, chunk_enter, known-before, paragraphs-fit, paragraphs-known}
pub use Rattle.mdconstructs_machines.specs.LineEvents.{all_of, data_events, data_line, ending_of, is_line_ending, joined, line_text, lines_in}
pub use Rattle.mdconstructs_machines.specs.ParagraphEvents.{Block, Chunk, Marked, as_linked, block_marks, blocks_marks, blocks_of, chunk_of, line_marks, lines_marks, mark_of, marked_span, paragraph, paragraph_events}
pub use Rattle.mdconstructs_tables.specs.Paragraphs.{CanLinkChunk, flow_start, flow_start_rows, knows_chunk, paragraph_inside, paragraph_inside_rows, paragraph_line_start, paragraph_line_start_rows, paragraph_start, paragraph_start_rows, paragraphs, paragraphs_rules}
pub use Rattle.mdconstructs_machines.specs.ReadAs.{IsReadAs}
pub use Rattle.mdconstructs_tables.specs.Tables.{LineByte, counts, line_byte}
pub use Rattle.mdconstructs_tables.specs.Chunks.{chunk_before}
pub use Rattle.mdconstructs_tables.proofs.KeptByReading.{IsKept, holds-at-start, kept-well, lawful-kept}
pub use Rattle.mdconstructs_tables.proofs.LinkShapes.{next-kept, next-more, next-other}
pub use Rattle.mdconstructs_tables.proofs.Rows.Calls.{callable, can-exit, never-called, then}
pub use Rattle.mdconstructs_tables.proofs.Tables.Knowledge.{picked-row}
pub use Rattle.mdconstructs_tables.proofs.Tables.Lawful.{knowing-lawful}
pub use Rattle.mdconstructs_tables.proofs.Tables.Refusals.{either-step, nothing-found, refuse-nothing, table-steps}
pub use Rattle.mdconstructs_tables.specs.Joined.{has_state}
pub use Rattle.mdconstructs_tables.specs.Knowledge.{EachRow}
pub use Rattle.mdconstructs_tables.specs.LinkShapes.{next_end}
pub use Rattle.mdconstructs_tables.specs.Markers.{marked}
pub use Rattle.mdconstructs_tables.specs.Refusals.{RulesRefuseNothing, refusing}
pub use Rattle.mdconstructs_tables.specs.RowInvariant.{begun}
pub use Rattle.mdconstructs_tables.specs.RowTest.{allows_all, start_shape}
pub use Rattle.mdconstructs_tables.specs.Rows.{Rows, choose, class_of, consume, enter, exit, picked, row, step_of, table_step, when}
pub use Rattle.mdinline_text_machine.specs.Autolink.{autolink, autolink_at, autolink_to, is_allowed, is_scheme, is_scheme_byte, uri}
pub use Rattle.mdinline_text_machine.specs.AutolinkRows.{autolink_open, autolink_open_rows, autolink_scheme, autolink_scheme_rows, autolink_start, autolink_url, autolink_url_rows, autolinks, autolinks_are_on, has_room, has_scheme, scheme_goes_on}
pub use Rattle.mdinline_text_machine.specs.Bytes.{backticks, ends_with, has_byte_at, is_backslash, is_backtick, is_colon, is_greater_than, is_less_than, is_line_feed, passes}
pub use Rattle.mdinline_text_machine.specs.ChainTexts.{AreReadAtPlaces, AreReadBy, HasReadableChains, chain_data, chain_events, chain_text, with_data, with_read, with_texts}
pub use Rattle.mdinline_text_machine.specs.CodeSpan.{before_backtick_string, code_events, code_span, code_span_at, code_span_found, code_span_with, is_backtick_or_line_feed, is_backtick_string, pieces}
pub use Rattle.mdinline_text_machine.specs.CodeSpanRows.{code_spans, code_spans_are_on, raw_text_after, raw_text_backticks_start, raw_text_backticks_inside, raw_text_backticks_inside_rows, raw_text_between, raw_text_between_rows, raw_text_data, raw_text_data_rows, raw_text_sequence_close, raw_text_sequence_close_rows, raw_text_sequence_open, raw_text_sequence_open_rows, raw_text_start, raw_text_start_rows, sizes_are_equal}
pub use Rattle.mdinline_text_machine.specs.Construct.{Between, Construct, Found, Grammar, before_rows, between_texts, first_there, grammars_of, if_on, or_else, some_begins, some_first, tried_at}
pub use Rattle.mdinline_text_machine.specs.Escape.{escape, escape_at}
pub use Rattle.mdinline_text_machine.specs.EscapeRows.{escape_inside, escape_inside_rows, escape_start, escape_start_rows, escaped, escapes, escapes_are_on}
pub use Rattle.mdinline_text_machine.specs.Items.{is_special, item_at, item_length, text_grammars}
pub use Rattle.mdinline_text_machine.specs.Laws.Classes.{by-class, tick-classed}
pub use Rattle.mdinline_text_machine.specs.Laws.Rules.{in-paragraphs, in-text, text-lawful}
pub use Rattle.mdinline_text_machine.specs.Parts.{Part, bytes_of, cut, cut_remembering, event, leaf, line_ending, part, part_at, part_events, part_length, plain_length, plain_run}
pub use Rattle.mdinline_text_machine.specs.TextBytes.{TextByte, ampersand, backslash, backtick, blank, colon, digit, greater, is_backslash_class, is_backtick_class, is_less_class, is_line_feed_class, is_tick, less, letter, line_feed, mark, other, punctuation, text_byte, white}
pub use Rattle.mdinline_text_machine.specs.TextEvents.{item_events, items, seat_events, text_events}
pub use Rattle.mdinline_text_machine.specs.TextRules.{flow, text_rules}
pub use Rattle.mdinline_text_machine.specs.TextSizes.{more_than}
pub use Rattle.mdinline_text_machine.specs.TextTable.{data_at_break, data_at_break_rows, data_inside, data_inside_rows, text_before, text_before_data, text_before_data_rows, text_before_rows, text_constructs, text_start, texts}
pub use Rattle.mdinline_text_machine.proofs.Texts.Leads.{Ending, EndsWith, ending, goes-next}
