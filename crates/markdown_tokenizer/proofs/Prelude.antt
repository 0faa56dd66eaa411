-- What the proofs of this crate cite from below them: words of std, of the crates below and of specs.
pub use Rattle.std.proofs.Common.{Bool, Global, List, None, Option, Some, [], add-one, add-zero, add_assoc, ap, append_assoc, arith, cond, drop, drop-cons, false, get_or, inl, inr, length, length-append, length-take, ltb, refl, rules, subst, suc, suc-add, sum_by, sym, take, true, zero, zero-add, ℕ, ◌%◌, ◌^◌, ◌*◌, ◌++◌, ◌+◌, ◌-◌, ◌<◌, ◌==◌, ◌↔◌, ◌∙◌, ◌∷◌, ◌≡◌, ◌≢◌, ◌≤◌, ◌⊎◌}
pub use Rattle.std.proofs.Math.ListN.{get_or-map}
pub use Rattle.std.proofs.Math.Nat.{mod-eq_of_lt, mod-lt, mod_self, mul-add, mul-le-mul_left, mul-le-mul_right, mul-suc, suc-mod}
pub use Rattle.std.proofs.Math.Seq.{take-length}
pub use Rattle.std.proofs.lemmas.Bool.{and_parts, cases_lt, eqb-true, false_from_ne_true, false≢true, le-ltb, lt-ltb, ltb-false, ltb-true, not-true, or_parts}
pub use Rattle.std.proofs.lemmas.Bool.Decides.{nat_tests}
pub use Rattle.std.proofs.lemmas.Grind.{flat_map-append}
pub use Rattle.std.proofs.lemmas.List.{append-nil, append_cancel_left, drop_all, drop_more, get_or_append_left, get_or_push, length-map, length_push, map-append, reverse-append, take-append-le, take-map, take-take}
pub use Rattle.std.proofs.lemmas.List.Elements.{All-nil, All-push, All-take, All-weaker, Contains-append_right, filter-append}
pub use Rattle.std.proofs.lemmas.List.Folds.{find-append}
pub use Rattle.std.proofs.lemmas.List.Quantifiers.{all_pairs_push}
pub use Rattle.std.proofs.lemmas.List.Sorted.{IsPartitionPoint-from_clause, IsPartitionedBy-ltb}
pub use Rattle.std.proofs.lemmas.List.Sums.{sum_by-append, sum_by-cons}
pub use Rattle.std.proofs.lemmas.Map.Keys.{IsDistinct-cons, IsDistinct-push}
pub use Rattle.std.proofs.lemmas.Option.{slice_get-get_or, slice_get_cases, slice_get_within}
pub use Rattle.std.proofs.lemmas.Result.{IfOk-weaker}
pub use Rattle.std.specs.Bool.{OnTrue}
pub use Rattle.std.specs.Cmp.{IsEquivalence}
pub use Rattle.std.specs.Global.{Vec}
pub use Rattle.std.specs.List.{AllByRecursion, enumerate_from, flat_map, last_or, list_all, list_any}
pub use Rattle.std.specs.List.Sorted.{IsNonDecreasingBy, IsPartitionPoint}
pub use Rattle.std.specs.Option.{is_some}
pub use Rattle.std.specs.Prelude.{All, AllPairs, Contains, IfErr, IfSome, IsErrAnd, IsSome, Result, filter, find, map, nat_lt, not, option_map, reverse, slice_get, slice_index, unwrap_or, ◌&&◌, ◌||◌}
pub use Rattle.markdown_base.proofs.Common.{every-append, every-get, every-map, filter-none, get-front, leads-back, none-mapped, or-leads}
pub use Rattle.markdown_base.proofs.OpenEvents.{open_events_from-unlinked}
pub use Rattle.markdown_base.proofs.Seats.{end-after-append, end-after-one, stands-self}
pub use Rattle.markdown_base.specs.Events.{EndsBelow, HasFrontUpToLinkEnds, IsBalanced, IsInOrder, empty, is_void, open_after, open_events, open_events_from, relinked, same_name, span, unlinked, with_ends}
pub use Rattle.markdown_base.specs.Places.{IsPointOf, IsShown, denotes_same, follows_cr, is_upto, point_at, points, shown, stands_before}
pub use Rattle.markdown_base.specs.Virtual.{IsWithinLimit, Seat, begins_with_lf, document_end, end_after, end_in_tab, in_tab, line_feed, point, tab_width, virtual, virtual_from}
pub use Rattle.markdown_base.specs.declared.configuration.ParseOptions.{ParseOptions}
pub use Rattle.markdown_base.specs.declared.event.Event.{Event}
pub use Rattle.markdown_base.specs.declared.event.Kind.{Kind}
pub use Rattle.markdown_base.specs.declared.event.Kind.TheVariants.{Enter, Exit}
pub use Rattle.markdown_base.specs.declared.event.Link.{Link}
pub use Rattle.markdown_base.specs.declared.event.Point.{Point}
pub use Rattle.markdown_base.specs.declared.message.Message.{Message}
pub use Rattle.markdown_base.specs.declared.state.Name.{Name}
pub use Rattle.markdown_base.specs.declared.state.State.{State}
pub use Rattle.markdown_base.specs.declared.state.State.TheVariants.{Error, Next, Nok, Ok, Retry}
pub use Rattle.markdown_base.proofs.Balanced.{balanced_from_open, names-none, names_after_all-append, none_is_not_some, same_name-refl}
pub use Rattle.markdown_edits.specs.Edited.{edited}
pub use Rattle.markdown_edits.specs.Edits.{Edit}
pub use Rattle.markdown_edits.specs.Links.{linked_to, next_of, next_set, previous_of, previous_set, updated_at, with_next, with_previous}
pub use Rattle.markdown_base.specs.OpenNames.{names_after, names_after_all}
pub use Rattle.markdown_edits.specs.Woven.{Tagged, of_list, placed_end, placed_in, woven}
pub use base.Fml.{Fml}
pub use base.Logic.{SProp, emp, ent, fst∗, via}
pub use contract.Lifetimes.{Lfts, Shares}
pub use contract.Monad.{Fun}
pub use contract.Running.{tables}
pub use denote.Enum.Bare.{same_true}
pub use denote.Exit.{yes}
pub use denote.RattleType.{owns}
pub use denote.Ref.{shr_Tells, shr_vals}
pub use denote.Shadow.{pure_i}
pub use denote.Signature.{types_at}
pub use denote.Triple.Entry.{Args, alive, on_entry}
pub use denote.Triple.Spec.{triple_of}
pub use denote.Triple.Table.{entered}
pub use denote.Triple.Walked.{Goes-none_ref, Stays, Walks, ends_at, says, stay_none_ref, walk_Meets, walk_of, walked}
pub use mathlib.Core.Bool.{beq}
pub use mir.Syntax.{named}
pub use mir.Val.{Val, vnil, vptr, vstruct}
pub use prog.Memory.{Memory}
pub use prog.Routine.{Routine}
pub use prog.Wp.{Calls, Loops, WpFn}
pub use seplogic.Ra.Ura.{Ura}
pub use sound.WpLaws.{WpFn-mono}
pub use types.ByLocal.{alloc_all, free_all, look_at, pass_all, sets}
pub use types.Kit.{ !, done, move, qed, raw, suffices, ‵, ◌$◌, ◌∵◌}
pub use types.Logic.{Logic}
pub use types.Part.{agg}
pub use types.Run.{enter, no_more, returns}
pub use Rattle.markdown_tokenizer.specs.Noted.{IsNoted, CanExitAt, with_enter_at, with_exit_at}
pub use Rattle.markdown_tokenizer.specs.Calls.{CanExit, consumed, with_enter, with_exit, with_resolvers}
pub use Rattle.markdown_tokenizer.specs.Configuration.{Choice, Configuration, Local, Saved, Step, TokenizerValue, at_configuration, start_configuration, start_seen}
pub use Rattle.markdown_tokenizer.specs.Cursor.{Bounds, CanMove, IsNextByte, IsNextSeat, IsPlace, IsQuick, IsSeatAt, begins_pair, end_at, goes_on, is_after_pair, is_before_pair, moved, moved_over, rest_at}
pub use Rattle.markdown_tokenizer.specs.Cuts.{cuts_every, is_cut, place_of}
pub use Rattle.markdown_tokenizer.specs.AtPlaces.{AreAtPlaces}
pub use Rattle.markdown_tokenizer.specs.Engine.{AreCuts, CanPush, FollowInOrder, ForPoints, HoldsOf, IsFlushed, IsPushed, IsRefused, IsRun, IsRunRefused, IsWellFormed, KeepsOutcome, LeadsOn, budget, given_by, given_of, whole_text}
pub use Rattle.markdown_tokenizer.specs.Gaps.{AreSorted, IsOutside, IsPlainUntil, IsSkip, is_kept, is_kept_by, kept_between, resumed, skip_of}
pub use Rattle.markdown_tokenizer.specs.Lawful.{ConsumesOnce, CostPays, DidStep, EndsWhenRead, IsAsFar, IsLawful, KeepsInvariant, OnlyAdds, ResolversKeep, SavesEvents, stepped}
pub use Rattle.markdown_tokenizer.specs.LawStatements.{IsOneRange, Later, added, here, went_back, LeavesOnly}
pub use Rattle.markdown_tokenizer.specs.Made.{IsMade, VoidExitsFollow, last_kind}
pub use Rattle.markdown_tokenizer.specs.Plain.{HaveNoLinks, IsPlain, KeepsPlain, NothingResolves, ReadsAsPromised, plain}
pub use Rattle.markdown_tokenizer.specs.Ranges.{AfterGap, FollowOn, IsGapFrom, IsRangeFrom, after_any, after_gap}
pub use Rattle.markdown_tokenizer.specs.Reading.{EndsIn, after_choices, fed, more_calls, outcome, read, read_step, restored, settle, settled_at, unfed}
pub use Rattle.markdown_tokenizer.specs.Resolving.{IsInShape, IsResolved, IsResolvingRefused, LeavesEvents, Resolved, found, refused, resolved_by, resolving, taken, with_more}
pub use Rattle.markdown_tokenizer.specs.Rules.{Rules}
pub use Rattle.markdown_tokenizer.specs.Sight.{Sight, byte_of, current_of, end_or, end_place, point_of, point_or, seat_before, sight, sight_in, sight_of}
pub use Rattle.markdown_tokenizer.specs.Text.{CanFollow, FitsAfter, Given, IsDocument, IsText, Piece, Text, empty_text, followed_by, followed_by_all, in_range, passed, pushed}
pub use Rattle.markdown_tokenizer.specs.Turns.{AreCalledAlike, EndsFrom, Stand, Turns, no_turn, one_turn, stand, stand_of, turn}
pub use Rattle.markdown_tokenizer.specs.Over.{step_over, step_noted, over_one, noted_one, noted_upto, ReadsOver, NotesByte, GoesBack, IsByteOver, IsPairOver, IsOver, IsPair, HasReadOver, none_over, one_over, two_over, AreOverUpto, no_byte, one_byte, two_bytes}
pub use Rattle.markdown_tokenizer.specs.Unwound.{AreWithin, Unwinding, continuation_of, ended_by, progress_at, saved_for, unwinding, unwound}
pub use Rattle.markdown_tokenizer.specs.View.{AreNested, ByteWaits, EndWaits, NextByteIsKnown, IsPlaced, IsProgress, IsReadTo, IsSound, IsWhatWaits, can_feed, choice_at, choice_of, end_point, events_of, position_from, reach, saved_at_place, saved_of, seats_between, seen, stack_of, standing, state_of, tab_of, text_within}
pub use Rattle.markdown_tokenizer.specs.Work.{EndsClosed, HoldsAll, IsInText, LeadsAll, OnlyWorked, Stops, TakesUp, answer_in, answer_of, extended, resolved_in, settled_all, settled_to, ComesTo}
pub use Rattle.markdown_tokenizer.specs.contracts.waiting.AttemptKind.{the_type}
pub use Rattle.markdown_tokenizer.specs.declared.parser.ParseState.{ParseState}
pub use Rattle.markdown_tokenizer.specs.declared.subtokenize.Subresult.{Subresult}
pub use Rattle.markdown_tokenizer.specs.declared.tokenizer.Tokenizer.TheInside.{Inside}
pub use Rattle.markdown_tokenizer.specs.declared.waiting.AttemptKind.{AttemptKind}
pub use Rattle.markdown_tokenizer.specs.declared.waiting.AttemptKind.TheVariants.{Attempt, Check}
pub use Rattle.markdown_tokenizer.specs.declared.waiting.GoesOn.{GoesOn}
pub use Rattle.markdown_tokenizer.specs.declared.waiting.KeptChoice.{KeptChoice}
pub use Rattle.markdown_tokenizer.specs.declared.cursor.Moves.{Moves}
pub use Rattle.markdown_tokenizer.specs.declared.cursor.Moves.TheVariants.{Last, Other, Plain, Tab}
pub use Rattle.markdown_tokenizer.specs.declared.waiting.Phase.{Phase}
pub use Rattle.markdown_tokenizer.specs.declared.waiting.Phase.TheVariants.{Reading, Resolving}
pub use Rattle.markdown_tokenizer.specs.declared.waiting.Progress.{Progress}
pub use Rattle.markdown_tokenizer.specs.declared.waiting.Waits.{Waits}
pub use Rattle.markdown_tokenizer.specs.declared.waiting.Waits.TheVariants.{Byte, End, Nothing}
