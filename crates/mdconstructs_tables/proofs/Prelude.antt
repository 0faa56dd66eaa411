-- What the proofs of this crate cite from below them: words of std, of the crates below and of specs.
pub use Rattle.std.proofs.Common.{Bool, List, None, Option, Some, [], add-one, ap, append_assoc, arith, cond, drop, false, get_or, inl, inr, length, length-append, map, mul-le-mul_left, mul-le-mul_right, not, refl, subst, suc, sum_by, sym, take, true, zero, ℕ, ⊎_elim, ◌&&◌, ◌++◌, ◌+◌, ◌-◌, ◌<◌, ◌==◌, ◌||◌, ◌∙◌, ◌∷◌, ◌≡◌, ◌≢◌, ◌≤◌, ◌⊎◌}
pub use Rattle.std.proofs.Math.Seq.{take-append_seam}
pub use Rattle.std.proofs.lemmas.Bool.{and_from, and_parts, cases_eq, cond-false, cond_both, false_from_ne_true, leb-true, ltb-false, ltb-true, not-false, not-true, or_parts}
pub use Rattle.std.proofs.lemmas.Bool.Decides.{nat_tests}
pub use Rattle.std.proofs.lemmas.List.{append-nil, length-map, map-append, take-append-drop, take-append-le, take-map, take_all}
pub use Rattle.std.proofs.lemmas.List.Elements.{All-cons, All-contains, All-head, All-nil, All-push, All-tail, All-take, All-weaker, Contains-append_cases}
pub use Rattle.std.proofs.lemmas.List.Sums.{sum_by-cons}
pub use Rattle.std.proofs.lemmas.Option.{IfSome_then, none-some, slice_get_cases, slice_get_past, slice_get_within}
pub use Rattle.std.specs.List.{flat_map, last_or, list_any}
pub use Rattle.std.specs.Prelude.{All, Contains, IfSome, filter, max, nat_lt, option_and_then, option_map, reverse, slice_get}
pub use Rattle.markdown_base.proofs.Common.{get-front, none-mapped, or-leads}
pub use Rattle.markdown_base.proofs.OpenEvents.{open_events_from-unlinked}
pub use Rattle.markdown_base.proofs.Seats.{stands-self}
pub use Rattle.markdown_base.specs.Events.{EachEnd, EndsBelow, is_void, open_after, open_events, open_events_from, unlinked}
pub use Rattle.markdown_base.specs.Places.{denotes_same, shown, stands_before}
pub use Rattle.markdown_base.specs.Virtual.{Seat, virtual}
pub use Rattle.markdown_base.specs.declared.event.Event.{Event}
pub use Rattle.markdown_base.specs.declared.event.Kind.TheVariants.{Enter, Exit}
pub use Rattle.markdown_base.specs.declared.event.Link.{Link}
pub use Rattle.markdown_base.specs.declared.event.Name.{Name as EventName}
pub use Rattle.markdown_base.specs.declared.event.Point.{Point}
pub use Rattle.markdown_base.specs.declared.message.Message.{Message}
pub use Rattle.markdown_base.specs.declared.state.Name.{Name}
pub use Rattle.markdown_base.specs.declared.state.State.{State}
pub use Rattle.markdown_base.specs.declared.state.State.TheVariants.{Error, Next, Nok, Ok, Retry}
pub use Rattle.markdown_base.proofs.Balanced.{same_name-true}
pub use Rattle.markdown_edits.proofs.LinkEnds.{updated-length}
pub use Rattle.markdown_edits.specs.Links.{linked_to, next_of, next_set, previous_of, previous_set, updated_at, with_next, with_previous}
pub use Rattle.markdown_tokenizer.proofs.Inside.Changes.{linked-unlinked}
pub use Rattle.markdown_tokenizer.proofs.Inside.Made.{before-upto}
pub use Rattle.markdown_tokenizer.proofs.Positions.Order.{upto-before}
pub use Rattle.markdown_tokenizer.proofs.Positions.TextOrder.{began-before_next, begins-before_end, ends-before_next}
pub use Rattle.markdown_tokenizer.proofs.Readings.Plain.{no-links-more}
pub use Rattle.markdown_tokenizer.proofs.Runs.Working.{holds-on}
pub use Rattle.markdown_tokenizer.specs.Calls.{CanExit, consumed, entered, exited, noting, place_of, saved_at, with_local, with_resolvers}
pub use Rattle.markdown_tokenizer.specs.Configuration.{Choice, Configuration, Local, Saved, Step, TokenizerValue, at_configuration, start_configuration}
pub use Rattle.markdown_tokenizer.specs.Engine.{EndsWellFormed, IsRunRefused, whole_text}
pub use Rattle.markdown_tokenizer.specs.Lawful.{ConsumesOnce, CostPays, EndsWhenRead, ForEachCall, IsAsFar, IsLawful, KeepsInvariant, OnlyAdds, ResolversKeep, SavesEvents}
pub use Rattle.markdown_tokenizer.specs.Noted.{ArePlaces, CanExitAt, IsNoted, with_enter_at, with_exit_at}
pub use Rattle.markdown_tokenizer.specs.Plain.{IsPlain, KeepsPlain, NothingResolves, finds_nothing, plain}
pub use Rattle.markdown_tokenizer.specs.Reading.{EndsIn, Reading, after_choices, fed, more_calls, read, restored, settle, settled_at, unfed}
pub use Rattle.markdown_tokenizer.specs.Resolving.{IsResolvingRefused, found, refused, resolved_by, taken, with_more}
pub use Rattle.markdown_tokenizer.specs.Rules.{Rules}
pub use Rattle.markdown_tokenizer.specs.Sight.{end_or, next_place, Sight, byte_of, current_of, end_place, seat_before, sight, sight_in, sight_of}
pub use Rattle.markdown_tokenizer.specs.Text.{Given, IsText, Piece, Text, empty_text, followed_by, in_range, passed, pushed}
pub use Rattle.markdown_tokenizer.specs.declared.subtokenize.Subresult.{Subresult}
pub use Rattle.markdown_tokenizer.specs.declared.waiting.AttemptKind.{AttemptKind}
pub use Rattle.markdown_tokenizer.specs.declared.waiting.AttemptKind.TheVariants.{Attempt, Check}
pub use Rattle.markdown_tokenizer.specs.declared.waiting.Waits.{Waits}
pub use Rattle.markdown_tokenizer.specs.declared.waiting.Waits.TheVariants.{Byte, End, Nothing}
pub use Rattle.mdconstructs_tables.specs.Chunks.{chunk_before}
pub use Rattle.mdconstructs_tables.specs.Fitting.{AllFall, HasNoMisfits, IsFit, IsFitBy, KeepsNoted, and_falls, every}
pub use Rattle.mdconstructs_tables.specs.Joined.{AreApart, has_state, joined_cost, joined_rules}
pub use Rattle.mdconstructs_tables.specs.Knowledge.{AllKeepKnowing, EachRow, IsKnownThroughout, KeepsKnowing, KnownAfter, KnowsFalling, LeavesShape, knowing_rules}
pub use Rattle.mdconstructs_tables.specs.Late.{AllFallLater, FallsLater, IsLate, are_falling, falls_on, is_late_row, is_late_state, late_rules}
pub use Rattle.mdconstructs_tables.specs.LinkShapes.{AreInShape, next_end, previous_end}
pub use Rattle.mdconstructs_tables.specs.Markers.{IsMarkable, marked}
pub use Rattle.mdconstructs_tables.specs.Misfits.{Reason, act, acts_fit, answer, choice, choices_fit, misfit, misfits, named_misfit, named_start, spans, spans_fit, start, unless, unpaid, with_reason}
pub use Rattle.mdconstructs_tables.specs.PlainTables.{ArePlain, IsPlainTable, are_plain_acts, are_plain_rows, are_plain_states}
pub use Rattle.mdconstructs_tables.specs.PlainWrites.{RowsWritePlain, StatesWritePlain, WritePlain, WritesPlain}
pub use Rattle.mdconstructs_tables.specs.Plans.{AllKeepKnown, HoldsPlanned, IsSound, KeepsKnowledge, KeepsKnown, KnownBehind, Plan, planned_rules}
pub use Rattle.mdconstructs_tables.specs.Refusals.{RulesRefuseNothing, act_refuses, is_message, refusing, rows_refuse}
pub use Rattle.mdconstructs_tables.specs.RowInvariant.{CanEndNoted, CanHoldNoted, IsNotedAt, IsNotedBefore, KnowsNoted, WhereNoted, before_next, began_in, began_there, began_unfed, AnyGoesBack, AnyWait, ArePaid, AreWaiting, AreWithin, Began, CanEnd, EndsWithEnter, GoesBack, HoldsAt, IsAtState, IsBelow, IsCallable, IsFed, IsOpen, IsSaved, IsSavedIn, IsStateAt, MayEnd, PaysRows, SightIsInOrder, Stands, and_of_own, answer_end, answer_price, at_most, began_at, begun, choice_price, chosen_price, class_at, class_in, ends_at, events_saved, exit_place_at, first_end, goes_on_price, is_read, next_price, once_read, outline, own_cost, position_of, price_by, retry_price, row_price, since, state_price, table_cost, table_holds, table_price, table_rules, upto, waiting_or_below, waiting_price}
pub use Rattle.mdconstructs_tables.specs.RowTest.{Noting, is_noted_before, noted_before, noted_here, noted_if, read_on, unnoted, goes_on_fresh, is_fresh_byte, may_go_on_there, Frame, Shape, Stage, after, after_all, all_rows, allows, allows_all, answer_calls, at_stage, byte_read, byte_waits, calls_at, calls_le, calls_or, choice_calls, chosen_calls, counts_answer, counts_choices, end_waits, fed_calls, feeds, first_stage, fits_answer, fits_calls, fits_choice, fits_choices, fits_row, frame_of, fresh_at, fresh_fed, is_at, is_bare, is_behind, is_by_bytes, is_byte_waiting, is_called, is_called_at, is_counted, is_early, is_end, is_fresh, is_fresh_fed, is_last, is_some, is_void_last, larger, later_stage, may_fail, may_go_back, may_go_on, may_start, needs_choice, needs_failing, never, next_calls, pays_row, plus, same_names, saves, start_shape, waits_in}
pub use Rattle.mdconstructs_tables.specs.Rows.{Act, Begun, Called, Calls, Cost, Needs, Row, Rows, StateRows, Table, a_choice_for_ok, anywhere, at_a_byte, at_byte, at_bytes, at_bytes_or_end, before, by_bytes, choice_made_at, choose, chooses, class_of, consume, does, done, enter, enter_noted, enters, exit, exit_noted, here, links, named, note, nothing, own, past, picked, row, row_at, seen_after, shown_sight, step_at, step_of, table_step, when, with_choice_of, writes}
