-- What the proofs of this crate cite from below them: words of std, of the crates below and of specs.
pub use Rattle.std.proofs.Common.{Bool, List, None, Option, Some, [], ap, arith, cond, drop, false, get_or, inl, inr, le-ltb, length, length-append, lt-ltb, nat_le, not, refl, rules, slice_get, slice_set, subst, suc, sym, take, true, zero, ℕ, ◌*◌, ◌++◌, ◌+◌, ◌-◌, ◌/◌, ◌<◌, ◌==◌, ◌∙◌, ◌∷◌, ◌≡◌, ◌≤◌, ◌⊎◌}
pub use Rattle.std.proofs.lemmas.Bool.Decides.{nat_tests}
pub use Rattle.std.proofs.lemmas.Iterator.Adapters.{position_from-zero}
pub use Rattle.std.proofs.lemmas.List.{append-nil, append_assoc, length-drop, length-map, map-append}
pub use Rattle.std.proofs.lemmas.Option.{slice_get_within}
pub use Rattle.std.specs.List.{AllByRecursion, flat_map, position_from}
pub use Rattle.std.specs.Prelude.{codes, map, position}
pub use Rattle.markdown_base.proofs.Common.{drop-next, every-append, every-map}
pub use Rattle.markdown_base.specs.Places.{shown}
pub use Rattle.markdown_base.specs.Virtual.{Seat, end_after, point, virtual}
pub use Rattle.markdown_base.specs.declared.event.Event.{Event}
pub use Rattle.markdown_base.specs.declared.event.Kind.TheVariants.{Enter, Exit}
pub use Rattle.markdown_base.specs.declared.event.Name.TheVariants.{BlankLineEnding, BlockQuoteMarker, Data, LineEnding, Paragraph}
pub use Rattle.markdown_base.specs.declared.event.Name.{Name as EventName}
pub use Rattle.markdown_base.specs.declared.event.Point.{Point}
pub use Rattle.markdown_base.specs.declared.state.Name.{Name}
pub use Rattle.markdown_base.specs.declared.state.State.{State}
pub use Rattle.markdown_base.specs.declared.state.State.TheVariants.{Next, Nok, Ok, Retry}
pub use Rattle.markdown_base.specs.declared.state.TheConstants.Name.{DataAtBreak, DataInside, DataStart, FlowStart, ParagraphInside, ParagraphLineStart, ParagraphStart, StringBefore, StringStart, TextBefore, TextStart, ThematicBreakAtBreak}
pub use Rattle.markdown_edits.proofs.LinkEnds.{updated-length}
pub use Rattle.markdown_edits.specs.Links.{CanLink, linked_to, updated_at, with_next, with_previous}
pub use Rattle.markdown_tokenizer.proofs.Readings.Bounds.{called-ends, fed-ends, one-end, settled-nok-ends, settled-ok-ends}
pub use Rattle.markdown_tokenizer.specs.Calls.{entered, with_local}
pub use Rattle.markdown_tokenizer.specs.Configuration.{Choice, Configuration, Local, Saved, Step, TokenizerValue, at_configuration, start_configuration}
pub use Rattle.markdown_tokenizer.specs.Engine.{IsRun, whole_text}
pub use Rattle.markdown_tokenizer.specs.Lawful.{DidStep}
pub use Rattle.markdown_tokenizer.specs.Reading.{EndsIn, Reading, fed, settled_at}
pub use Rattle.markdown_tokenizer.specs.Rules.{Rules}
pub use Rattle.markdown_tokenizer.specs.Sight.{Sight, byte_of, end_or, end_place, point_or, seat_before, sight, sight_of}
pub use Rattle.markdown_tokenizer.specs.Text.{Given, IsDocument, Text}
pub use Rattle.markdown_tokenizer.specs.declared.subtokenize.Subresult.{Subresult}
pub use Rattle.markdown_tokenizer.specs.declared.waiting.AttemptKind.{AttemptKind}
pub use Rattle.markdown_tokenizer.specs.declared.waiting.AttemptKind.TheVariants.{Attempt, Check}
pub use Rattle.markdown_tokenizer.specs.declared.waiting.Waits.{Waits}
pub use Rattle.markdown_tokenizer.specs.declared.waiting.Waits.TheVariants.{Byte, End, Nothing}
pub use Rattle.mdconstructs_tables.specs.Chunks.{chunk_before, connected, last_event}
pub use Rattle.mdconstructs_tables.proofs.Rows.Calls.{callable}
pub use Rattle.mdconstructs_tables.proofs.Tables.Refusals.{nothing-found, refuse-nothing, table-steps}
pub use Rattle.mdconstructs_tables.specs.Fitting.{IsFit}
pub use Rattle.mdconstructs_tables.specs.Misfits.{misfits}
pub use Rattle.mdconstructs_tables.specs.PlainTables.{IsPlainTable}
pub use Rattle.mdconstructs_tables.specs.PlainWrites.{WritesPlain}
pub use Rattle.mdconstructs_tables.specs.Refusals.{RulesRefuseNothing, refusing}
pub use Rattle.mdconstructs_tables.specs.RowInvariant.{DoesAll, begun, step_in}
pub use Rattle.mdconstructs_tables.specs.Rows.{Rows, StateRows, Table, at_bytes_or_end, class_of, consume, enter, enter_link, exit, links, named, picked, row, step_at, step_of, write}
pub use Rattle.mdconstructs_machines.specs.Back.{back, back_rules, data_at_break_rows, data_inside_rows, data_start_rows, string_before_rows, string_start, string_start_rows, text_before_rows, text_start_rows}
pub use Rattle.mdconstructs_machines.specs.Deep.{deep, deep_rules, triangle}
pub use Rattle.mdconstructs_machines.specs.Fail.{as_it_was, fail, text_start}
pub use Rattle.mdconstructs_machines.specs.Innermost.{AccountFor, AccountsForDocuments, span_over}
pub use Rattle.mdconstructs_machines.specs.Laws.Back.{back-none}
pub use Rattle.mdconstructs_machines.specs.Laws.Deep.{deep-none, triangle-is}
pub use Rattle.mdconstructs_machines.specs.Laws.Lines.{lines-none}
pub use Rattle.mdconstructs_tables.proofs.Paragraphs.{can-follow, known-before}
pub use Rattle.mdconstructs_machines.specs.Laws.Peek.{peek-none}
pub use Rattle.mdconstructs_machines.specs.Laws.Save.{save-none}
pub use Rattle.mdconstructs_machines.specs.LineEvents.{all_of, back_events, data_events, data_line, ending_of, is_line_ending, joined, line_events, line_text, lines_in, paragraph_line, save_events}
pub use Rattle.mdconstructs_machines.specs.Lines.{flow_start, lines, lines_rules, paragraph_inside, paragraph_inside_rows}
pub use Rattle.mdconstructs_machines.specs.ParagraphEvents.{Block, Chunk, Marked, as_linked, begins, blank, block_marks, blocks_marks, blocks_of, chunk_at, chunk_of, continued, is_blank, is_quoted, line_marks, lines_marks, mark_of, marked_span, paragraph, paragraph_events, with_links}
pub use Rattle.mdconstructs_tables.specs.Paragraphs.{CanLinkChunk, flow_start_rows, is_quote_mark, paragraph_line_start_rows, paragraph_start_rows, paragraphs, paragraphs_rules, text_link}
pub use Rattle.mdconstructs_machines.specs.Peek.{peek, peek_rules}
pub use Rattle.mdconstructs_machines.specs.ReadAs.{IsReadAs}
pub use Rattle.mdconstructs_machines.specs.Save.{save, save_rules}
pub use Rattle.mdconstructs_machines.specs.Spans.{event, leaf, span}
pub use Rattle.mdconstructs_tables.specs.Tables.{LineByte, counts, line_byte, line_ending, other}
pub use Rattle.mdconstructs_machines.specs.Unfit.{breaking, editing, is_ending, uncounted_lines}
pub use Rattle.mdconstructs_machines.specs.Words.{words}
pub use Rattle.mdconstructs_machines.specs.Wrap.{renamed, wrap}
pub use Rattle.markdown_base.proofs.Facts.Bools.{cond-itself}
pub use Rattle.markdown_base.proofs.Seats.{end-after-append}
pub use Rattle.markdown_tokenizer.specs.Alike.{LooksNoFurther}
pub use Rattle.mdconstructs_tables.specs.Breaks.{BreakByte, BreaksAreScanned, break_byte, break_cases, breaks, has_three, is_break, is_line_feed_class, is_ok, is_star_class, is_white, is_white_class, line_ends, line_feed, one_star_more, star, white}
pub use Rattle.mdconstructs_machines.specs.WholeLooks.{LooksOverTheRest}
pub use Rattle.mdconstructs_machines.specs.declared.wrap.Resolver.{Resolver}
pub use Rattle.mdconstructs_tables.proofs.Cases.{at-byte}
pub use Rattle.mdconstructs_tables.proofs.Looks.Scans.{scan-goes}
pub use Rattle.mdconstructs_tables.proofs.Looks.Tests.{by-test, by-when, told}
pub use Rattle.mdconstructs_tables.proofs.Rows.Called.{IsCalled, is-called}
pub use Rattle.mdconstructs_tables.proofs.Tables.NoFurther.{steps-alike}
pub use Rattle.mdconstructs_tables.specs.Cases.{AreTestsOf}
pub use Rattle.mdconstructs_tables.specs.Looks.{Look, Plays, looked, scan, shows, unfed_look}
pub use Rattle.mdconstructs_tables.specs.NoFurther.{IsAnsweredAlike, tests}
pub use Rattle.mdconstructs_tables.specs.Quiet.{loud}
pub use Rattle.std.proofs.lemmas.Bool.{eqb-true}
