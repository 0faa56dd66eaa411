-- What the proofs of this crate cite from below them: words of std, of the crates below and of specs.
pub use Rattle.std.proofs.Common.{Bool, IfOk, List, None, Option, Some, [], ap, arith, cond, drop, false, inl, inr, le_trans, length, length-append, nat_le, nat_lt, not, one-add, option_map, refl, replicate, rules, slice_get, slice_index_or, slice_set, subst, suc, sym, take, true, zero, ℕ, ◌&&◌, ◌*◌, ◌++◌, ◌+◌, ◌-◌, ◌<◌, ◌==◌, ◌^◌, ◌||◌, ◌∙◌, ◌∷◌, ◌≡◌, ◌≤◌, ◌⊎◌}
pub use Rattle.std.proofs.Math.Bool.{and-false, and-true, and_comm}
pub use Rattle.std.proofs.Math.Nat.{mul-le-mul_right}
pub use Rattle.std.proofs.Math.Seq.{take-add, take-append_seam, take-length, take-suc}
pub use Rattle.std.proofs.lemmas.Bool.{and_parts, cases_lt, eqb-true, le-leb, le-ltb, lt-leb, lt-ltb, ltb-false, ltb-true, not-false, not-true}
pub use Rattle.std.proofs.lemmas.Bool.Decides.{nat_tests}
pub use Rattle.std.proofs.lemmas.List.{append-nil, append_assoc, drop-drop, drop-map, drop-take, drop_at, length-drop, length-map, length-take-le, take-append-drop, take-take, take_all, take_at}
pub use Rattle.std.proofs.lemmas.List.Sums.{prefix_len-le-length}
pub use Rattle.std.proofs.lemmas.Option.{get_or_from_slice_get, slice_get_cases, slice_get_past, slice_get_within}
pub use Rattle.std.proofs.lemmas.Slice.{between_is}
pub use Rattle.std.specs.Char.{is_ascii_alphabetic, is_ascii_alphanumeric, is_ascii_digit, is_ascii_hexdigit}
pub use Rattle.std.specs.List.{AllByRecursion, between, flat_map, last_or, list_all, prefix_len}
pub use Rattle.std.specs.Option.{is_some, unwrap_or}
pub use Rattle.std.specs.Prelude.{codes, filter, option_and_then, slice_index}
pub use Rattle.std.specs.Vec.{vec_len}
pub use Rattle.markdown_base.proofs.Common.{drop-at, drop-next, every-append, every-filter, every-get, every-map}
pub use Rattle.markdown_base.proofs.Seats.{end-after-one}
pub use Rattle.markdown_base.specs.Places.{denotes_same, follows_cr, in_range, shown, stands_before}
pub use Rattle.markdown_base.specs.Virtual.{Seat, begins_with_lf, end_after, in_tab, other_byte, point, tab_width, virtual, virtual_from}
pub use Rattle.markdown_base.specs.declared.configuration.ParseOptions.{ParseOptions}
pub use Rattle.markdown_base.specs.declared.event.Event.{Event}
pub use Rattle.markdown_base.specs.declared.event.Kind.TheVariants.{Enter, Exit}
pub use Rattle.markdown_base.specs.declared.event.Name.{Name as EventName}
pub use Rattle.markdown_base.specs.declared.event.Name.TheVariants.{Autolink, AutolinkEmail, AutolinkMarker, CharacterReference, CharacterReferenceMarker, CharacterReferenceMarkerHexadecimal, CharacterReferenceMarkerNumeric, CharacterReferenceMarkerSemi, CharacterReferenceValue, CodeText, CodeTextData, CodeTextSequence, HardBreakEscape, HardBreakTrailing, HtmlText, HtmlTextData, LineEnding, SpaceOrTab}
pub use Rattle.markdown_base.specs.declared.event.Point.{Point}
pub use Rattle.markdown_base.specs.declared.state.Name.{Name}
pub use Rattle.markdown_base.specs.declared.state.State.{State}
pub use Rattle.markdown_base.specs.declared.state.State.TheVariants.{Next, Nok, Ok, Retry}
pub use Rattle.markdown_base.specs.declared.state.TheConstants.Name.{AutolinkEmailAtSignOrDot, AutolinkEmailAtext, AutolinkEmailLabel, AutolinkEmailValue, CharacterReferenceNumeric, CharacterReferenceOpen, CharacterReferenceStart, CharacterReferenceValue as ReferenceValue, HardBreakEscapeAfter, HardBreakEscapeStart, HtmlTextCdataOpenInside, HtmlTextCommentOpenInside, HtmlTextDeclarationOpen, HtmlTextEnd, HtmlTextLineEndingAfter, HtmlTextLineEndingAfterPrefix, HtmlTextOpen, HtmlTextStart, HtmlTextTagClose, HtmlTextTagCloseBetween, HtmlTextTagCloseStart, HtmlTextTagOpen, HtmlTextTagOpenAttributeName, HtmlTextTagOpenAttributeNameAfter, HtmlTextTagOpenAttributeValueBefore, HtmlTextTagOpenAttributeValueQuoted, HtmlTextTagOpenAttributeValueQuotedAfter, HtmlTextTagOpenAttributeValueUnquoted, HtmlTextTagOpenBetween, RawTextBetween, RawTextStart, SpaceOrTabInside, SpaceOrTabStart}
pub use Rattle.markdown_base.proofs.Facts.Lists.{get-dropped}
pub use Rattle.markdown_tokenizer.proofs.Positions.Seats.{drop-first}
pub use Rattle.markdown_tokenizer.proofs.Positions.Standing.{shown-upto}
pub use Rattle.markdown_tokenizer.proofs.Positions.TextOrder.{AreInOrder, Follows, IsGood, text-order}
pub use Rattle.markdown_tokenizer.specs.Calls.{exited, with_local}
pub use Rattle.markdown_tokenizer.specs.Configuration.{Choice, Configuration, Local, Step, TokenizerValue, at_configuration}
pub use Rattle.markdown_tokenizer.specs.Sight.{Sight, byte_of, current_of, end_or, end_place, point_of, point_or, sight, sight_of}
pub use Rattle.markdown_tokenizer.specs.Text.{Given, IsText, Text, empty_text, followed_by, followed_by_all, pushed}
pub use Rattle.markdown_tokenizer.specs.declared.tokenizer.state.ContainerState.{ContainerState}
pub use Rattle.markdown_tokenizer.specs.declared.waiting.Waits.{Waits}
pub use Rattle.markdown_tokenizer.specs.declared.waiting.Waits.TheVariants.{Byte, End, Nothing}
pub use Rattle.mdinline_constructs.specs.Email.{before_first, between_dots, email, email_at, email_with, is_at_sign, is_atext, is_domain, is_domain_byte, is_dot, is_hyphen, is_domain_label, is_label_byte}
pub use Rattle.mdinline_constructs.specs.EmailRows.{domain_ends, email_atext_rows, email_label, email_label_rows, email_start, email_start_rows, email_value_rows, emails, label_end_rows, label_ends, label_goes_on, label_has_hyphen, label_rows, name_ends, name_goes_on}
pub use Rattle.mdinline_constructs.specs.HardBreak.{break_escape_at, hard_break_escape, hard_break_trailing, trailing_break_at}
pub use Rattle.mdinline_constructs.specs.HardBreakRows.{break_escape_after_rows, break_escape_start_rows, break_escapes}
pub use Rattle.mdinline_constructs.specs.HtmlMarked.{and_before, starts_with, either_there, html_mark_grammar, marked, through}
pub use Rattle.mdinline_constructs.specs.HtmlMarkedRows.{cdata_open_rows, closed_by, comment_open_rows, declaration_open_rows, ends_cdata_mark, html_marks, in_cdata_mark, in_mark, inside_rows, is_mark_byte, look_rows, mark_ends, mark_fails, mark_line_ends, mark_line_rows, mark_open_rows, mark_start_rows, mark_white_rows, no_cdata, no_comment, no_declaration, no_instruction, none_upto, stopped_at}
pub use Rattle.mdinline_constructs.specs.HtmlTag.{begins_attribute_name, behind, past_attribute, behind_attributes, behind_closing, behind_one, behind_opening, past_quote, behind_tag, past_value, html_tag_grammar, is_attribute_name_byte, is_double_quote, is_equals_sign, is_single_quote, is_slash, is_tag_name_byte, is_tag_white, is_unquoted, tag_length}
pub use Rattle.mdinline_constructs.specs.HtmlTagRows.{html_tags, html_text_attribute_name_after_rows, html_text_attribute_name_rows, html_text_end_rows, html_text_open_rows, html_text_start_rows, html_text_tag_close_between_rows, html_text_tag_close_rows, html_text_tag_close_start_rows, html_text_tag_open_between_rows, html_text_tag_open_rows, html_text_value_before_rows, html_text_value_quoted_after_rows, html_text_value_quoted_rows, html_text_value_unquoted_rows, is_quote, quote_is, quote_waits}
pub use Rattle.mdinline_constructs.specs.HtmlText.{Piece, data_run, has_blank_line, html, html_of, line_break, piece_at, piece_events, piece_length}
pub use Rattle.mdinline_constructs.specs.HtmlTextRows.{CanEndHtml, CanEndHtmlLine, follows_line_ending, html_ends, html_following, html_goes_on, html_is_on, html_line_begins, html_line_ending_after_prefix_rows, html_line_ending_after_rows, html_line_ends, html_rows, html_state, is_following, no_html, sees}
pub use Rattle.mdinline_constructs.specs.LinedCode.{code_piece_at, code_piece_events, lined_code_at, lined_events}
pub use Rattle.mdinline_constructs.specs.Reference.{Kind, body_at, decimal, hexadecimal, is_number_sign, is_semicolon, is_value, is_value_byte, is_x, mark_events, marks, named, number_at, reference, reference_at, value_at}
pub use Rattle.mdinline_constructs.specs.ReferenceRows.{at_number_sign, at_semicolon, at_x, going_on, is_ampersand_class, is_whole, marker_is, may_go_on, name_behind, reference_numeric_rows, reference_open_rows, reference_start_rows, reference_value, reference_value_rows, references, references_are_on, value_begins, value_goes_on, value_grows, value_is_whole}
pub use Rattle.mdinline_constructs.specs.RememberedCode.{all_runs_seen, code_line_rows, code_white_rows, index_of, is_ahead, is_hopeless, is_seen_from, later_of, remembered_between_rows, remembered_chunk_rows, remembered_code_spans, remembered_open_rows, runs_of, seen_at, unseen, with_run, with_run_at}
pub use Rattle.mdinline_constructs.specs.WhiteSpace.{is_white_left, white_space, white_space_at}
pub use Rattle.mdinline_constructs.specs.declared.names.TheConstants.{HtmlTextMarkClose, HtmlTextMarkInside, HtmlTextMarkLine, HtmlTextMarkOpen, HtmlTextMarkStart, HtmlTextMarkWhite, RawTextLineStart, RawTextLineWhite}
pub use Rattle.mdconstructs_machines.proofs.LineReads.Rows.{row_step}
pub use Rattle.mdconstructs_machines.proofs.LineReads.Onward.{leads-step}
pub use Rattle.mdconstructs_machines.proofs.LineReads.Steps.{at-front, held, place-behind}
pub use Rattle.mdconstructs_tables.specs.Breaks.{is_white}
pub use Rattle.mdconstructs_tables.specs.Tables.{counts}
pub use Rattle.mdinline_characters.proofs.Names.{begins-so, found-so}
pub use Rattle.mdinline_characters.proofs.Parts.{no_characters}
pub use Rattle.mdinline_characters.proofs.Tables.{all_are_short}
pub use Rattle.mdinline_characters.specs.References.{name_from}
pub use Rattle.mdconstructs_tables.proofs.GrowingTexts.{last-more}
pub use Rattle.mdconstructs_tables.proofs.Rows.Calls.{byte-waits, can-exit, can-mark, then}
pub use Rattle.mdconstructs_tables.specs.NoFurther.{IsAnsweredAlike, tests}
pub use Rattle.mdconstructs_tables.specs.RowInvariant.{DoesAll, IsCallable}
pub use Rattle.mdconstructs_tables.specs.RowTest.{allows_all, start_shape}
pub use Rattle.mdconstructs_tables.specs.Rows.{Act, Row, Rows, class_of, consume, enter, exit, picked, row, shown_sight, step_of, when, write, writes}
pub use Rattle.mdinline_text_machine.proofs.Autolinks.Bytes.{autolinks-apart}
pub use Rattle.mdinline_text_machine.proofs.Autolinks.Calls.{allowed-upto, byte-within, link_calls, looked-once}
pub use Rattle.mdinline_text_machine.proofs.Autolinks.Events.{IsJoined}
pub use Rattle.mdinline_text_machine.proofs.Autolinks.Places.{text-joined}
pub use Rattle.mdinline_text_machine.proofs.CodeSpans.Items.{Ends}
pub use Rattle.mdinline_text_machine.proofs.CodeSpans.Parts.{grows_b, more-is, run-positive, size_b, size_c, with_b}
pub use Rattle.mdinline_text_machine.proofs.CodeSpans.Plays.{PlaysCodeSpans, before_chunk_rows, between_rows, opening_rows}
pub use Rattle.mdinline_text_machine.proofs.CodeSpans.Remembered.{KnowsRuns, Memory, known_runs, knows-as, knows-later, knows-nothing, left-paid, others, read-paid, remembered-code-spans-read, remembering, seen}
pub use Rattle.mdinline_text_machine.proofs.CodeSpans.Sizes.{code-span-within}
pub use Rattle.mdinline_text_machine.proofs.CodeSpans.Ticks.{drop-order}
pub use Rattle.mdinline_text_machine.proofs.Constructs.Apart.{IsApart, OfOption, only-there, when-so, when-there}
pub use Rattle.mdinline_text_machine.proofs.Constructs.Listed.{outer}
pub use Rattle.mdinline_text_machine.proofs.Constructs.Marks.{can-mark-behind}
pub use Rattle.mdinline_text_machine.proofs.DeepSpans.Atoms.{IsCut, OneLine, cut-append, cut-leaf, cut-span}
pub use Rattle.mdinline_text_machine.proofs.DeepSpans.Stretches.{ItemCut, NoEnding, byte-plain, cuts, one-taken, plain-add, plain-line, run-behind, run-plain, three-cut}
pub use Rattle.mdinline_text_machine.proofs.Escapes.Bytes.{escapes-apart}
pub use Rattle.mdinline_text_machine.proofs.Escapes.Calls.{after-two}
pub use Rattle.mdinline_text_machine.proofs.Plain.Classes.{ended-in}
pub use Rattle.mdinline_text_machine.proofs.Plain.Items.{DecidesIn, ReadsIn, TriedIn, decides-in, decides-more, decides-within, puts-back, reads-of, refused}
pub use Rattle.mdinline_text_machine.proofs.Plain.Passed.{after-passed}
pub use Rattle.mdinline_text_machine.proofs.Plain.Stretches.{byte-behind, end-behind, first_byte, goes-next, is_end, leaf-read, loops, passed, past, past-at, past-stops, shows, waits_at}
pub use Rattle.mdinline_text_machine.proofs.Texts.Built.{IsBuilt, IsKeptBySpans, flat-built, three}
pub use Rattle.mdinline_text_machine.proofs.Texts.Counted.{IsAfter, Remembered, after-call, after-more, after-sized, after-within, remembered}
pub use Rattle.mdinline_text_machine.proofs.Texts.Cutting.{cut-enough, drop-less}
pub use Rattle.mdinline_text_machine.proofs.Texts.Leads.{Ending, as_asked, goes-next as next-fed, spent}
pub use Rattle.mdinline_text_machine.proofs.Texts.Reads.{ReadsPart}
pub use Rattle.mdinline_text_machine.proofs.Texts.Steps.{EndsWith, HasRow, HasRows, Leads, Plays, before_class, between_items, leads-ok, leads-row, leads-seen, leads-tested, tested}
pub use Rattle.mdinline_text_machine.specs.Autolink.{is_allowed}
pub use Rattle.mdinline_text_machine.specs.Bytes.{backticks, ends_with, has_byte_at, is_ampersand, is_backslash, is_backtick, is_greater_than, is_less_than, is_line_feed, is_space, passes}
pub use Rattle.mdinline_text_machine.specs.Construct.{Between, Found}
pub use Rattle.mdinline_text_machine.specs.Items.{item_length}
pub use Rattle.mdinline_text_machine.specs.Laws.Classes.{by-class, tick-classed}
pub use Rattle.mdinline_text_machine.specs.Parts.{bytes_of, cut, event, leaf}
pub use Rattle.mdinline_text_machine.specs.TextBytes.{TextByte, ampersand, backslash, backtick, blank, colon, digit, greater, is_tick, less, letter, line_feed, mark, other, punctuation, text_byte, white}
pub use Rattle.mdinline_text_machine.specs.TextEvents.{item_events}
pub use Rattle.mdinline_text_machine.specs.TextSizes.{more_than, size_b_grows, size_b_is}
