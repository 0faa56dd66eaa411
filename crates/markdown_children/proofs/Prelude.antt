-- What the proofs of this crate cite from below them: words of std, of the crates below and of specs.
pub use Rattle.markdown_base.proofs.LineLemmas.{passing_more, passing_next}
pub use Rattle.markdown_tokenizer.proofs.Positions.Order.{after-before, before-self, before-upto, every-all, every-back, every-both, every-cond, every-front, every-kept, later-later}
pub use Rattle.std.specs.Cmp.Derive.{both_true}
pub use Rattle.std.proofs.lemmas.Simd.{map-map}
pub use Rattle.std.proofs.lemmas.Slice.Zip.{AllZip-long, all_zipped_more}
pub use Rattle.std.proofs.Common.{Bool, List, None, Option, Result, Some, [], add-one, add-zero, ap, append-nil, append_assoc, arith, cond, drop, drop-cons, eqb, eqb-true, false, get_or, inl, inr, leb, length, length-append, length-drop, length-take, lit<, lit≤, ltb, map, refl, reverse, rules, slice_set, subst, suc, sym, take, take-append-drop, true, zero, zero-add, ℕ, ⊎_elim, ◌*◌, ◌++◌, ◌+◌, ◌-◌, ◌/◌, ◌<◌, ◌^◌, ◌∙◌, ◌∷◌, ◌≡◌, ◌≢◌, ◌≤◌, ◌⊎◌}
pub use Rattle.std.proofs.Math.ListN.{drop_of_length-le, get_or-eq_default}
pub use Rattle.std.proofs.Math.Nat.{mul-le-mul_left, mul-le-mul_right}
pub use Rattle.std.proofs.Math.Seq.{drop-append_seam, take-append_seam, take-length, take-suc}
pub use Rattle.std.proofs.lemmas.Bool.{and_from, and_parts, both_ways, cases_lt, cases_order, eq-eqb, false_from_ne_true, le-leb, le-ltb, leb-false, leb-true, lt-ltb, ltb-false, ltb-true, ne_eqb, not-false, not-true, not_from_false, or_cases, or_left, or_parts, or_right}
pub use Rattle.std.proofs.lemmas.Bool.Decides.{nat_tests, same_from_decides}
pub use Rattle.std.proofs.lemmas.Grind.{flat_map-append}
pub use Rattle.std.proofs.lemmas.List.{drop-drop, get_or_default, length-map, length-reverse, length-take-le, map-append}
pub use Rattle.std.proofs.lemmas.List.Elements.{All-contains, All-contains_itself, All-drop, All-from_recursion, All-head, All-map, All-tail, All-take, Contains-append_right, filter_passes, recursion_from_All}
pub use Rattle.std.proofs.lemmas.List.FromFn.{get_or-map-range_with_len, length-map-range_with_len, map-range_with_len_more}
pub use Rattle.std.proofs.lemmas.List.Sorted.{IsPartitionPoint-from_clause, IsPartitionedBy-leb}
pub use Rattle.std.proofs.lemmas.List.Sums.{take_while-cons}
pub use Rattle.std.proofs.lemmas.Option.{none-some, option_and_then_some, same_Some, slice_get-get_or, slice_get-map, slice_get_past, slice_get_within}
pub use Rattle.std.specs.List.{AllByRecursion, AllZip, between, range_with_len, take_while}
pub use Rattle.std.specs.List.Sorted.{IsNonDecreasingBy}
pub use Rattle.std.specs.Option.{option_and_then, option_copied, option_map}
pub use Rattle.std.specs.Prelude.{All, Contains, IfErr, IfOk, IfSome, IsSomeAnd, filter, flat_map, if◌then◌else◌, is_none, is_some, nat_le, nat_lt, not, slice_get, slice_index, slice_index_or, unwrap_or, vec_capacity, vec_len, ◌&&◌, ◌==◌, ◌||◌, ◌↔◌}
pub use Rattle.markdown_base.proofs.Common.{and-false-never, drop-at, every-append, every-filter, every-get, every-map, get-front}
pub use Rattle.markdown_base.proofs.PointAt.{point-of_reached}
pub use Rattle.markdown_base.proofs.Scans.{IsReached, IsReturnPlace, IsSeatPlace, byte_here, place-of, reached-crlf, reached-line_feed, reached-plain, reached-return, reached-tab, reached_start, tab_width-least}
pub use Rattle.markdown_base.specs.Events.{EachEnd, EndsBelow, IsBalanced, IsVoidTight, empty, is_void, relinked, same_name, span, with_ends}
pub use Rattle.markdown_base.specs.Lines.{ends_line, is_lf}
pub use Rattle.markdown_base.specs.Places.{IsPointOf, IsShown, denotes_same, follows_cr, in_range, is_upto, point_at, shown, stands_before}
pub use Rattle.markdown_base.specs.Virtual.{Seat, begins_with_lf, in_tab, point, tab_width, virtual, virtual_from}
pub use Rattle.markdown_base.specs.declared.configuration.ParseOptions.{ParseOptions}
pub use Rattle.markdown_base.specs.declared.event.Content.{Content}
pub use Rattle.markdown_base.specs.declared.event.Content.TheVariants.{Flow, String}
pub use Rattle.markdown_base.specs.declared.event.Event.{Event}
pub use Rattle.markdown_base.specs.declared.event.Kind.TheVariants.{Enter, Exit}
pub use Rattle.markdown_base.specs.declared.event.Link.{Link}
pub use Rattle.markdown_base.specs.declared.event.Name.TheVariants.{BlankLineEnding, BlockQuote, BlockQuotePrefix, Data, Definition, LineEnding, ListItemPrefix, Paragraph, SpaceOrTab}
pub use Rattle.markdown_base.specs.declared.event.Point.{Point}
pub use Rattle.markdown_base.specs.declared.message.Message.{Message}
pub use Rattle.markdown_base.specs.declared.state.Name.{Name}
pub use Rattle.markdown_base.specs.declared.state.State.{State}
pub use Rattle.markdown_base.specs.declared.state.State.TheVariants.{Error, Next, Nok, Ok, Retry}
pub use Rattle.markdown_base.proofs.Balanced.{IsBalanced-pair, balanced_from_open, names-none, names_after_all-append, names_after_balanced, same_name-refl, same_name-true}
pub use Rattle.markdown_edits.proofs.Edits.FinalPlaces.{HasNo, length-olds, old_place, old_place-pass, or_after, place_in-append, place_in-olds_below, place_in-pass_below}
pub use Rattle.markdown_edits.proofs.Edits.Passes.{AreApart, AreApart-le, olds, pass, woven-pass}
pub use Rattle.markdown_edits.proofs.Edits.Puts.{put-last}
pub use Rattle.markdown_edits.proofs.Edits.Splices.{AreApart-edits, edited-spliced, relinked-agree, relinked-same, same_shift}
pub use Rattle.markdown_edits.proofs.Edits.Survivors.{has_no, keeps_links, keeps_order, next_moved, previous_moved, slice_get-behind, stays_as_it_was, stays_unless_removed}
pub use Rattle.markdown_edits.proofs.Edits.Turns.{AreDisjoint-le}
pub use Rattle.markdown_edits.specs.Edited.{as_addition, as_change, edited}
pub use Rattle.markdown_edits.specs.Edits.{AreBehind, AreDisjoint, Edit, added_by, put_after, removal_at, removed_by}
pub use Rattle.markdown_edits.specs.Links.{AreMutual, IsLinkedEnter, content_of, next_of, previous_of}
pub use Rattle.markdown_base.specs.OpenNames.{names_after, names_after_all}
pub use Rattle.markdown_edits.specs.Woven.{Change, Identity, Tagged, as_listed, changed, events_at, is_removed, is_same, of_addition, of_child, of_list, place_in, placed, placed_end, placed_in, woven}
pub use Rattle.markdown_tokenizer.proofs.Positions.Cursors.{same-self, upto-order, upto-same}
pub use Rattle.markdown_tokenizer.proofs.Positions.Points.{point_at-is, point_at-point, same-numbers, same-shown}
pub use Rattle.markdown_tokenizer.proofs.Positions.SeatLaws.{seat-is-point}
pub use Rattle.markdown_tokenizer.proofs.Positions.Standing.{IsAmong, place-of-point}
pub use Rattle.markdown_tokenizer.proofs.Readings.Bounds.{more-zero, one-end}
pub use Rattle.markdown_tokenizer.proofs.Runs.Whole.{err-if, ok-if}
pub use Rattle.markdown_tokenizer.proofs.Runs.Working.{holds-on, leads-refl, leads-trans}
pub use Rattle.markdown_tokenizer.specs.AtPlaces.{AreAtPlaces}
pub use Rattle.markdown_tokenizer.specs.Configuration.{Choice, Configuration, Step, TokenizerValue, start_configuration, start_seen}
pub use Rattle.markdown_tokenizer.specs.Engine.{CanPush, ForPoints, IsFlushed, IsPushed, IsRefused, IsWellFormed, KeepsOutcome, LeadsOn, budget, given_by}
pub use Rattle.markdown_tokenizer.specs.Lawful.{IsLawful}
pub use Rattle.markdown_tokenizer.specs.Reading.{EndsIn, Reading, after_choices, fed, more_calls, read, read_step, settle, settled_at}
pub use Rattle.markdown_tokenizer.specs.Resolving.{IsInShape, IsResolved, IsResolvingRefused, Resolved, done, refused, resolving, with_more}
pub use Rattle.markdown_tokenizer.specs.Rules.{Rules}
pub use Rattle.markdown_tokenizer.specs.Text.{CanFollow, FitsAfter, Given, IsDocument, IsText, Piece, Text, empty_text, followed_by, followed_by_all, passed, pushed}
pub use Rattle.markdown_tokenizer.specs.declared.subtokenize.Subresult.{Subresult}
pub use Rattle.markdown_tokenizer.specs.declared.tokenizer.fault.Fault.{Fault}
pub use Rattle.markdown_tokenizer.specs.declared.tokenizer.fault.Fault.TheVariants.{Failed, Memory}
pub use denote.Enum.Bare.{same_true, sameb, true_same}
pub use Rattle.markdown_children.specs.ByteStarts.{byte_start, column_after, column_at, eighth_starts, is_of_byte, is_place, line_after, line_at, width_at}
pub use Rattle.markdown_children.specs.Chains.{begins, chain_from, chain_of, content_at, fits, fitting_starts, lets_through, some_fits}
pub use Rattle.markdown_children.specs.Children.{chain_changes, child_changes, first_chunk, part_changes, tagged_child, with_children}
pub use Rattle.markdown_children.specs.LawStatements.{AreSpaced, ChangesAreApart, ChildrenFit, EditsGiveChildren, EndsInVoidEnter, FollowOneAnother, HasEndsWithin, IsInChain, IsInOneChain, IsTornNowhere, IsWholeFrom, LeadOnFrom, NoneTorn, StandSideBySide, StaysReady, chunk_numbers, part_numbers, passed_over}
pub use Rattle.markdown_children.specs.Parts.{Divided, IsForward, StandBefore, all_edits, chain_edits, child_place, divided, divided_over, edits_of_chain, front_until, part_edits, parts, total}
pub use Rattle.markdown_children.specs.Reads.{AreChildren, CanReadChain, Child, IsAtFirstParagraph, IsChild, IsChildFault, IsChildRefused, IsRead, IsSubtokenizeFault, IsSubtokenizeRefused, IsSubtokenized, StartAmong, lists, pieces_behind, pieces_of, start_at, text_from, text_of_chain}
pub use Rattle.markdown_children.specs.Ready.{IsChunk, IsGap, IsReadable, IsReady, IsShownPlace, place_at}
pub use Rattle.markdown_children.specs.ReadyTests.{AllBelow, FailsSomewhere, can_be_read, can_be_read_at, closes, has_no_link, is_chunk, is_closed, is_gap, is_gap_on, is_in_line, is_joined_back, is_joined_on, is_number, is_readable, is_same_point, is_sound, is_sound_at, is_void_span, leads_back_to, leads_on_to, link_at}
pub use Rattle.markdown_children.specs.SoFar.{SoFar, starts_below, with_flag}
pub use Rattle.markdown_children.specs.StartTests.{can_be_read_from}
pub use Rattle.markdown_children.specs.Tables.{AreAbove, AreRising, chunk_edit, rest_table, table, table_place}
pub use Rattle.markdown_children.specs.declared.byte_starts.ByteStart.{ByteStart}
pub use Rattle.markdown_children.specs.declared.division.Chunk.{Chunk}
pub use Rattle.markdown_base.proofs.Facts.Lists.{all-there, get-dropped, get-taken, some-get}
pub use Rattle.markdown_base.specs.declared.configuration.Constructs.{Constructs}
pub use Rattle.markdown_base.specs.declared.event.Kind.{Kind}
pub use Rattle.markdown_children.specs.ChildrenOf.{Answer, AreChildrenOf, EachIsRead, IsJustChildrenOf, are_none, child_of, children_at, endless, gives, is_at_first_paragraph, is_of, put_in, read_from, refuses, run_begin, with_first}
pub use Rattle.markdown_children.specs.NextContent.{CanBeReadNext, ChildrenCanBeRead, GoesOn, GoesOnBy, HasTextInGaps, HoldsOnlyText, ReadsNext, StaysReadyWithChains}
pub use Rattle.markdown_children.specs.Written.{HasWoven, end_of, written}
pub use Rattle.markdown_edits.proofs.Mirrors.{IsLongestRunTo-walk, length-mirror}
pub use Rattle.markdown_edits.specs.SpanWalks.{IsLongestRunTo}
pub use Rattle.markdown_edits.specs.SpanWalksInner.{depth_after, is_stop, mirror, run_len}
pub use Rattle.markdown_edits.specs.Spliced.{spliced}
pub use Rattle.markdown_tokenizer.proofs.Positions.Lines.{way-none, way-rest}
pub use Rattle.markdown_tokenizer.proofs.Positions.Seats.{rest-later}
pub use Rattle.markdown_tokenizer.proofs.Readings.Plain.{no-links-drop, no-links-shape, no-links-take}
pub use Rattle.markdown_tokenizer.specs.Cursor.{IsPlace, rest_at}
pub use Rattle.markdown_tokenizer.specs.Plain.{HaveNoLinks}
pub use Rattle.markdown_tokenizer.specs.Sight.{Sight, sight}
pub use Rattle.std.proofs.lemmas.List.Edits.{map_over_more}
pub use borrow.Author.Count.{below_more}
