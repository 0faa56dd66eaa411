-- What the proofs of this crate cite from below them: words of std, of the crates below and of specs.
pub use Rattle.std.proofs.Common.{Bool, List, None, Option, Some, [], ap, append_assoc, arith, cond, drop, false, inl, inr, length, not, refl, rules, subst, suc, sym, take, true, zero, ℕ, ◌&&◌, ◌*◌, ◌++◌, ◌+◌, ◌-◌, ◌<◌, ◌==◌, ◌||◌, ◌∙◌, ◌∷◌, ◌≡◌, ◌≤◌, ◌⊎◌}
pub use Rattle.std.proofs.Math.Bool.{and-false, or-false}
pub use Rattle.std.proofs.Math.Nat.{add_assoc, mul-le-mul_right}
pub use Rattle.std.proofs.lemmas.Bool.{and_parts, cases_lt, eqb-true, not-false}
pub use Rattle.std.proofs.lemmas.Bool.Decides.{nat_tests}
pub use Rattle.std.proofs.lemmas.List.{append-nil, drop-take, take-take, drop-drop, drop-map, length-drop, length-map, take_at}
pub use Rattle.std.proofs.lemmas.List.Elements.{All-from_get_or}
pub use Rattle.std.proofs.lemmas.List.Sums.{prefix_len-le-length}
pub use Rattle.std.specs.List.{AllByRecursion, between, flat_map, prefix_len}
pub use Rattle.std.specs.Prelude.{option_map, reverse, Contains, min, nat_le, nat_lt, slice_get}
pub use Rattle.markdown_base.proofs.Common.{drop-next, every-append}
pub use Rattle.markdown_base.specs.Events.{IsBalanced, empty, is_enter, same_name, span as balanced_span}
pub use Rattle.markdown_base.specs.Places.{IsPointOf}
pub use Rattle.markdown_base.specs.Virtual.{IsTabSize, Seat, end_after}
pub use Rattle.markdown_base.specs.declared.configuration.Constructs.{Constructs}
pub use Rattle.markdown_base.specs.declared.configuration.ParseOptions.{ParseOptions}
pub use Rattle.markdown_base.specs.declared.event.Content.TheVariants.{String, Text as TextContent}
pub use Rattle.markdown_base.specs.declared.event.Event.{Event}
pub use Rattle.markdown_base.specs.declared.event.Kind.TheVariants.{Enter, Exit}
pub use Rattle.markdown_base.specs.declared.event.Name.{Name as EventName}
pub use Rattle.markdown_base.specs.declared.event.Name.TheVariants.{AttentionSequence, CharacterEscape, CharacterEscapeMarker, CharacterEscapeValue, CharacterReference, CharacterReferenceMarker, CharacterReferenceMarkerHexadecimal, CharacterReferenceMarkerNumeric, CharacterReferenceMarkerSemi, CharacterReferenceValue, Data, HardBreakTrailing, LineEnding, SpaceOrTab}
pub use Rattle.markdown_base.specs.declared.event.Point.{Point}
pub use Rattle.markdown_base.specs.declared.state.Name.{Name}
pub use Rattle.markdown_base.specs.declared.state.State.{State}
pub use Rattle.markdown_base.specs.declared.state.State.TheVariants.{Next, Nok, Ok, Retry}
pub use Rattle.markdown_base.specs.declared.state.TheConstants.Name.{AttentionInside, AttentionStart, DataInside, DataStart, StringBefore, StringBeforeData, StringStart, TextBefore, TextBeforeData, TextBeforeHardBreakEscape, TextBeforeHtml, TextStart}
pub use Rattle.markdown_children.proofs.ChildReads.SoFar.{lists-all}
pub use Rattle.markdown_children.proofs.Parts.Staying.{stays-ready}
pub use Rattle.markdown_children.specs.Chains.{fitting_starts}
pub use Rattle.markdown_children.specs.Reads.{lists}
pub use Rattle.markdown_children.specs.Ready.{IsReady}
pub use Rattle.markdown_base.proofs.Balanced.{IsBalanced-append}
pub use Rattle.markdown_edits.specs.Edited.{edited}
pub use Rattle.markdown_tokenizer.proofs.Positions.Order.{every-back, every-front}
pub use Rattle.markdown_tokenizer.proofs.Positions.Standing.{place-of-point}
pub use Rattle.markdown_tokenizer.proofs.Readings.Bounds.{one-end}
pub use Rattle.markdown_tokenizer.proofs.Readings.Plain.{edited-same}
pub use Rattle.markdown_tokenizer.specs.Alike.{LooksNoFurther}
pub use Rattle.markdown_tokenizer.specs.AtPlaces.{AreAtPlaces}
pub use Rattle.markdown_tokenizer.specs.Calls.{consumed, entered, exited, noting, place_of, with_local, with_resolvers}
pub use Rattle.markdown_tokenizer.specs.Configuration.{Choice, Configuration, Local, Saved, Step, TokenizerValue, start_configuration}
pub use Rattle.markdown_tokenizer.specs.Engine.{IsRun, given_by, whole_text}
pub use Rattle.markdown_tokenizer.specs.Plain.{HaveNoLinks}
pub use Rattle.markdown_tokenizer.specs.Reading.{EndsIn, Reading, after_choices, fed, more_calls, read, settle, settled_at}
pub use Rattle.markdown_tokenizer.specs.Resolving.{IsResolved, done, edits_made, found, resolved_by, taken}
pub use Rattle.markdown_tokenizer.specs.Sight.{Sight, byte_of, end_place, point_or, seat_before, sight, sight_in}
pub use Rattle.markdown_tokenizer.specs.Text.{Given, IsDocument, IsText, Text}
pub use Rattle.markdown_tokenizer.specs.declared.subtokenize.Subresult.{Subresult}
pub use Rattle.markdown_tokenizer.specs.declared.tokenizer.noted.Noted.{Noted}
pub use Rattle.markdown_tokenizer.specs.declared.waiting.AttemptKind.{AttemptKind}
pub use Rattle.markdown_tokenizer.specs.declared.waiting.AttemptKind.TheVariants.{Attempt, Check}
pub use Rattle.markdown_tokenizer.specs.declared.waiting.Waits.TheVariants.{Byte, End, Nothing}
pub use Rattle.mdinline_emphasis.proofs.RunEdits.{emphasis-can-be-made}
pub use Rattle.mdinline_emphasis.specs.Emphasis.{paired}
pub use Rattle.mdinline_emphasis.specs.Places.{ArePlacesInside, HasRoom}
pub use Rattle.mdinline_emphasis.specs.RunEdits.{edits_of}
pub use Rattle.mdinline_emphasis.specs.Runs.{depth_after, index_of_event, is_sequence, run_at, runs_from, runs_in, with_emphasis}
pub use Rattle.mdinline_constructs.proofs.Emails.Bytes.{emails-apart}
pub use Rattle.mdinline_constructs.proofs.Emails.Calls.{email-paid, email-within}
pub use Rattle.mdinline_constructs.proofs.Emails.Cuts.{email-built}
pub use Rattle.mdinline_constructs.proofs.Emails.Readings.{PlaysEmails, emails-reads-in}
pub use Rattle.mdinline_constructs.proofs.HardBreaks.Bytes.{break-escapes-apart, trailing-break-some}
pub use Rattle.mdinline_constructs.proofs.HardBreaks.Calls.{break-escape-paid, break-escape-within, break_escape_calls, trailing-break-within}
pub use Rattle.mdinline_constructs.proofs.HardBreaks.Cuts.{break-escape-built, trailing-break-built}
pub use Rattle.mdinline_constructs.proofs.HardBreaks.Escaped.{PlaysBreakEscapes, break-escapes-read-in}
pub use Rattle.mdinline_constructs.proofs.HtmlMarks.Ahead.{mark-missed, marks-ahead-later, marks-ahead-same, marks-ahead-within, marks-leave-runs, marks_ahead}
pub use Rattle.mdinline_constructs.proofs.HtmlMarks.Bytes.{html-mark-built, html-marks-apart}
pub use Rattle.mdinline_constructs.proofs.HtmlMarks.Places.{Mark, MarkPlace, at_cdata, at_comment, at_declaration, at_inside, at_open, mark_name, of_cdata, of_comment, of_declaration, of_instruction}
pub use Rattle.mdinline_constructs.proofs.HtmlMarks.Readings.{MarksDecided, html-marks-read, known_at, look_calls, looked_over, mark-paid, mark-within}
pub use Rattle.mdinline_constructs.proofs.HtmlMarks.Remembered.{KnowsMarks, knows-later as marks-later, knows-nothing as marks-nothing, knows-same as marks-same}
pub use Rattle.mdinline_constructs.proofs.HtmlMarks.Rows.{PlaysMarks, known_upto, mark_rows}
pub use Rattle.mdinline_constructs.proofs.HtmlTags.Bytes.{html-tag-built, html-tags-apart, tag-paid, tag-within}
pub use Rattle.mdinline_constructs.proofs.HtmlTags.Calls.{tag-missed, tag_calls, tags-ahead-later, tags-ahead-within, tags_ahead}
pub use Rattle.mdinline_constructs.proofs.HtmlTags.Looks.{html-on-alike, html-tags-alike}
pub use Rattle.mdinline_constructs.proofs.HtmlTags.Places.{Place}
pub use Rattle.mdinline_constructs.proofs.HtmlTags.Readings.{html-tags-read-in}
pub use Rattle.mdinline_constructs.proofs.HtmlTags.Rows.{PlaysTags, rows_of, state_of}
pub use Rattle.mdinline_constructs.proofs.References.Alike.{goes-on-alike, number-sign-alike, on-alike, semicolon-alike, whole-alike, x-alike}
pub use Rattle.mdinline_constructs.proofs.References.Bytes.{reference-holds, references-apart}
pub use Rattle.mdinline_constructs.proofs.References.Calls.{reference-within, reference_calls}
pub use Rattle.mdinline_constructs.proofs.References.Cuts.{reference-built}
pub use Rattle.mdinline_constructs.proofs.References.Readings.{PlaysReferences, references-read, references-read-in}
pub use Rattle.mdinline_constructs.proofs.RememberedCode.Memory.{between-remembered, code_memory, opening-remembered}
pub use Rattle.mdinline_constructs.proofs.RememberedCode.Readings.{CodeDecided, code-ahead-later, code-ahead-within, code_ahead, knows-code-later, knows-no-code, knows_code, remembered-code-read}
pub use Rattle.mdinline_constructs.proofs.WhiteSpaces.Bytes.{is_white_class, run-some, white-classed, white-space-some}
pub use Rattle.mdinline_constructs.proofs.WhiteSpaces.Calls.{white-space-within}
pub use Rattle.mdinline_constructs.proofs.WhiteSpaces.Classes.{white-class}
pub use Rattle.mdinline_constructs.proofs.WhiteSpaces.Cuts.{white-space-built}
pub use Rattle.mdinline_constructs.specs.EmailRows.{email_atext, email_label, email_start, email_value, emails}
pub use Rattle.mdinline_constructs.specs.HardBreak.{hard_break_trailing, trailing_break_at, trailing_size_min}
pub use Rattle.mdinline_constructs.specs.HardBreakRows.{break_escape_after, break_escape_start, break_escapes, break_escapes_are_on, trailing_breaks_are_on}
pub use Rattle.mdinline_constructs.specs.HtmlMarkedRows.{cdata_open, comment_open, declaration_open, html_marks, mark_close, mark_inside, mark_line, mark_open, mark_start, mark_white}
pub use Rattle.mdinline_constructs.specs.HtmlTagRows.{html_tags, html_text_attribute_name, html_text_attribute_name_after, html_text_end, html_text_open, html_text_start, html_text_tag_close, html_text_tag_close_between, html_text_tag_close_start, html_text_tag_open, html_text_tag_open_between, html_text_value_before, html_text_value_quoted, html_text_value_quoted_after, html_text_value_unquoted}
pub use Rattle.mdinline_constructs.specs.HtmlTextRows.{html_line_ending_after, html_line_ending_after_prefix}
pub use Rattle.mdinline_constructs.proofs.Emails.Alike.{domain-ends-alike, hyphen-alike, label-alike, label-ends-alike, name-alike, name-ends-alike}
pub use Rattle.mdinline_constructs.specs.Reference.{Kind, decimal, hexadecimal, mark_events, marks, named, reference, reference_at}
pub use Rattle.mdinline_constructs.specs.ReferenceRows.{at_number_sign, at_semicolon, at_x, reference_numeric, reference_open, reference_start, reference_value, references, value_goes_on, value_is_whole}
pub use Rattle.mdinline_constructs.specs.RememberedCode.{code_line, code_white, remembered_between, remembered_chunk, remembered_code_spans, remembered_open}
pub use Rattle.mdinline_constructs.specs.WhiteSpace.{ends_line_at, is_white_left, white_space, white_space_at}
pub use Rattle.mdinline_link_tails.specs.Resource.{resource, resource_grammar}
pub use Rattle.mdinline_machine.specs.Brackets.{Bracket, Memory, after_item, before_link, begins_bracket, begins_end, begins_image, begins_link, bracket_at, end_at, end_of_last, image_bracket, is_close_bracket, is_exclamation, is_image_bracket, is_of_bracket, is_open_bracket, label_end, link_bracket, lone_end, nothing_read, waiting_behind}
pub use Rattle.mdinline_machine.specs.InlineEvents.{bracket_or_part, data_length, data_run, delimiter_run, ends_data, ends_data_at, inline_events, inline_grammars, inline_item_at, inline_items, line_break, marked_grammars, read_events, run_length, run_or_part, up_to, white_grammars}
pub use Rattle.mdinline_machine.specs.InlineRules.{EndsLinked, inlines_rules, linking_edits, no_labels}
pub use Rattle.mdinline_machine.specs.InlineTable.{at_data_break, before_email, before_hard_break_escape, before_html, before_tag, begins_inline, behind_autolinks, behind_emails, behind_escapes, behind_marks, break_or_white, data_goes_on, data_over, data_space, data_space_rows, data_spaces, data_spaces_rows, data_white, data_white_rows, follows_inline, inline_before, inline_before_rows, inline_constructs, inline_data, inline_data_rows, inline_start, inline_starts, inlines, line_start, line_start_rows, line_white, line_white_rows, own_states, space_waits, step_by, text_space, text_space_rows, text_spaces, text_spaces_rows, text_white, text_white_rows, white_is_data, white_over, white_states}
pub use Rattle.mdinline_machine.specs.LawStatements.{MakesLinks, ReadsChainsAsInlineText, ReadsChainsAsStrings, ReadsInlineText, ReadsStrings, RunsWithin, StaysReadyAfterInlineText, StaysReadyAfterStrings}
pub use Rattle.mdinline_machine.specs.Laws.Inlines.{inlines-lawful}
pub use Rattle.mdinline_machine.specs.Laws.Registered.{before-resolver, goes-on}
pub use Rattle.mdinline_machine.specs.RunRows.{attention_inside, attention_inside_rows, attention_start, begins_run, is_byte, is_delimiter, marker_is_on, run_begins, run_goes_on, run_states}
pub use Rattle.mdinline_machine.specs.StringEvents.{is_string_special, string_data, string_events, string_grammars, string_item_at, string_part}
pub use Rattle.mdinline_machine.specs.StringTable.{between_strings, registers, string_before, string_before_data, string_before_rows, string_constructs, string_data_rows, string_start, string_states}
pub use Rattle.mdinline_machine.specs.declared.names.TheConstants.{DataSpace, DataSpaces, DataWhite, TextBeforeEmail, TextBeforeTag, TextLineStart, TextLineWhite, TextSpace, TextSpaces, TextWhite}
pub use Rattle.mdconstructs_machines.proofs.LineReads.Onward.{leads-step, leads-unfed}
pub use Rattle.mdconstructs_machines.proofs.LineReads.Rows.{line-ending-read, row_step}
pub use Rattle.mdconstructs_machines.proofs.LineReads.Steps.{at-front, held}
pub use Rattle.mdconstructs_tables.specs.Breaks.{is_white}
pub use Rattle.mdconstructs_tables.specs.Tables.{counts}
pub use Rattle.mdconstructs_tables.proofs.Calm.{behind-acts, behind-rows}
pub use Rattle.mdconstructs_tables.proofs.Rows.Calls.{callable, never-called}
pub use Rattle.mdconstructs_tables.proofs.Tables.NoFurther.{steps-alike}
pub use Rattle.mdconstructs_tables.proofs.Tables.Refusals.{no-run-refused, refuse-nothing, table-steps}
pub use Rattle.mdconstructs_tables.specs.Calm.{RowsHarmless, WriteHarmless}
pub use Rattle.mdconstructs_tables.specs.NoFurther.{IsAnsweredAlike, tests, tests_of}
pub use Rattle.mdconstructs_tables.specs.Numbers.{by_left}
pub use Rattle.mdconstructs_tables.specs.Refusals.{RulesRefuseNothing, refusing}
pub use Rattle.mdconstructs_tables.specs.RowInvariant.{IsCallable}
pub use Rattle.mdconstructs_tables.specs.Rows.{Act, Cost, Rows, StateRows, Table, choose, class_of, consume, does, enter, enter_noted, enters, exit, exit_noted, links, note, past, picked, row, shown_sight, step_at, step_of, table_step, when, write, writes}
pub use Rattle.mdinline_text_machine.proofs.Autolinks.Bytes.{autolinks-apart}
pub use Rattle.mdinline_text_machine.proofs.Autolinks.Calls.{autolink-paid, autolink-within, from-less-ahead, from-less-within, from_less, link-missed, link_calls}
pub use Rattle.mdinline_text_machine.proofs.Autolinks.Cuts.{autolink-built}
pub use Rattle.mdinline_text_machine.proofs.Autolinks.Readings.{autolinks-reads-in}
pub use Rattle.mdinline_constructs.proofs.RememberedCode.Bytes.{lined-code-apart}
pub use Rattle.mdinline_constructs.proofs.RememberedCode.Cuts.{lined-code-built}
pub use Rattle.mdinline_text_machine.proofs.CodeSpans.Plays.{PlaysCodeSpans}
pub use Rattle.mdinline_text_machine.proofs.CodeSpans.Remembered.{knows-later as runs-later, others, remembering}
pub use Rattle.mdinline_text_machine.proofs.Constructs.Apart.{AreApart, EachThere, IsApart, OfOption, begins-classed, none-there, or-none, positive, there-holds, when-so, when-there}
pub use Rattle.mdinline_text_machine.proofs.Constructs.Listed.{AddsFrom, AreTried, DecidesTo, IsKept, IsListed, IsTried, Knowledge, Reads, ReadsFrom, items-read, listed, outer}
pub use Rattle.mdinline_text_machine.proofs.Escapes.Bytes.{escapes-apart}
pub use Rattle.mdinline_text_machine.proofs.Escapes.Calls.{escape-paid, escape-within, escape_calls}
pub use Rattle.mdinline_text_machine.proofs.Escapes.Cuts.{escape-built}
pub use Rattle.mdinline_text_machine.proofs.Escapes.Readings.{escapes-read, escapes-reads-in}
pub use Rattle.mdinline_text_machine.proofs.Paragraphs.ChainEvents.{all-begin, chains-read, chains-read-from, children-events}
pub use Rattle.mdinline_text_machine.proofs.Paragraphs.Staying.{each-alone}
pub use Rattle.mdinline_text_machine.proofs.Plain.Items.{AddsItemIn, DecidesIn, ReadsIn, adds-more, adds-of, data-begun, entered_data, reads-begun}
pub use Rattle.mdinline_text_machine.proofs.Plain.Passed.{after-passed}
pub use Rattle.mdinline_text_machine.proofs.Plain.Stretches.{byte-behind, first_byte, past-is, goes-back, goes-next, leaf-read, loops, passed, past-at, past-stops, seen, sees, shows}
pub use Rattle.mdinline_text_machine.proofs.Texts.Apart.{line-classed}
pub use Rattle.mdinline_text_machine.proofs.Texts.Built.{IsBuilt, IsKeptBySpans}
pub use Rattle.mdinline_text_machine.proofs.Texts.Counted.{IsAfter, Remembered, after-call, after-more, after-none, after-within, remembered}
pub use Rattle.mdinline_text_machine.proofs.Texts.Cutting.{cut-remembering-enough, cut-same, drop-less}
pub use Rattle.mdinline_text_machine.proofs.Texts.Ends.{ReadsTexts, ReadsTextsFrom, ends-so, holds-at-end}
pub use Rattle.mdinline_text_machine.proofs.Texts.Leads.{Ending, as_asked, counted-most, ending, most, spent}
pub use Rattle.mdinline_text_machine.proofs.Texts.LineEndings.{reads-line-in}
pub use Rattle.mdinline_text_machine.proofs.Texts.Reads.{AddsItem, ReadsItems, nothing-kept, nothing_known, reads-before}
pub use Rattle.mdinline_text_machine.proofs.Texts.Steps.{BeginsData, EndsWith, HasRow, HasRows, Leads, Plays, PlaysData, before_class, between_items, leads-fed, leads-nok, leads-ok, leads-row, leads-seen, leads-tested, tested}
pub use Rattle.mdinline_text_machine.proofs.Texts.Tight.{links-kept}
pub use Rattle.mdinline_text_machine.proofs.Texts.WholePlaces.{whole-is-text}
pub use Rattle.mdinline_text_machine.specs.AutolinkRows.{autolink_open, autolink_scheme, autolink_start, autolink_url, autolinks, autolinks_are_on, has_room, has_scheme}
pub use Rattle.mdinline_text_machine.specs.Bytes.{backticks, has_byte_at, is_backtick, is_line_feed, is_space, passes}
pub use Rattle.mdinline_text_machine.specs.ChainTexts.{chain_text}
pub use Rattle.mdinline_text_machine.specs.CodeSpanRows.{code_spans_are_on, raw_text_after, raw_text_backticks_inside, raw_text_data, raw_text_sequence_close, raw_text_start, sizes_are_equal}
pub use Rattle.mdinline_text_machine.specs.Construct.{Between, Construct, Found, Grammar, between_texts, first_there, grammars_of, if_on, or_else, plain, some_begins, some_first, states_of, tried_at}
pub use Rattle.mdinline_text_machine.specs.Escape.{escape, escape_at}
pub use Rattle.mdinline_text_machine.specs.EscapeRows.{escape_inside, escape_start, escapes, escapes_are_on}
pub use Rattle.mdinline_text_machine.specs.Items.{item_length}
pub use Rattle.mdinline_text_machine.specs.Laws.Classes.{by-class}
pub use Rattle.mdinline_text_machine.specs.Parts.{bytes_of, cut, cut_remembering, event, first_plain, leaf, line_ending, part, span}
pub use Rattle.mdinline_text_machine.specs.TextBytes.{TextByte, ampersand, backslash, backtick, blank, colon, digit, greater, is_line_feed_class, less, letter, line_feed, mark, other, punctuation, text_byte, white}
pub use Rattle.mdinline_text_machine.specs.TextCosts.{text_cost}
pub use Rattle.mdinline_text_machine.specs.TextEvents.{item_events}
pub use Rattle.mdinline_text_machine.specs.TextTable.{data_at_break, text_before_data}
