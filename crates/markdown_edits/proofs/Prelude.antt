-- What the proofs of this crate cite from below them: words of std, of the crates below and of specs.
pub use Rattle.std.proofs.Common.{add-one, drop-cons, Bool, Err, List, None, Ok, Option, Result, Some, [], add-zero, ap, append-nil, append_assoc, arith, cond, drop, eqb, false, get_or, inl, inr, leb, length, length-append, length-drop, length-set, ltb, map, max, not, refl, rules, set, subst, suc, sym, take, take-append-drop, true, zero, ℕ, ⊎_elim, ◌++◌, ◌+◌, ◌-◌, ◌<◌, ◌^◌, ◌↔◌, ◌∙◌, ◌∷◌, ◌≡◌, ◌≤◌, ◌⊎◌}
pub use Rattle.std.proofs.Math.Bool.{and-false}
pub use Rattle.std.proofs.Math.Seq.{drop-append-add, drop-append_seam, take-append-add}
pub use Rattle.std.proofs.lemmas.Bool.{cases_order, eq-eqb, le-ltb, leb-false, leb-true, lt-ltb, ltb-true}
pub use Rattle.std.proofs.lemmas.List.{drop-take, drop-append-le, drop-drop, drop_all, get_or-take, get_or_default, length-map, length-take-le, length_push, map-append, take-append-le, take-map, take_all}
pub use Rattle.std.proofs.lemmas.List.Elements.{All-append, All-drop, All-from_recursion, All-head, All-map, All-tail, All-take, recursion_from_All}
pub use Rattle.std.proofs.lemmas.List.Sorted.{IsPartitionPoint-from_clause, IsPartitionedBy-leb}
pub use Rattle.std.proofs.lemmas.Map.Iter.{rest_more}
pub use Rattle.std.proofs.lemmas.Map.Keys.{sorted_head, sorted_tail}
pub use Rattle.std.proofs.lemmas.Option.{none-some, same_Some, slice_get-map, slice_get_within}
pub use Rattle.std.specs.BTreeMap.{BTreeMap, insert_entry, is_at}
pub use Rattle.std.specs.List.{All, AllByRecursion, between, slice_get}
pub use Rattle.std.specs.List.Sorted.{IsNonDecreasingBy, IsPartitionPoint, IsStrictlySortedBy}
pub use Rattle.std.specs.Map.{keys_of, lookup, set_value}
pub use Rattle.std.specs.Map.Iter.{deref_pair}
pub use Rattle.std.specs.Option.{is_some, option_and_then, option_map}
pub use Rattle.std.specs.Ordering.{nat_cmp}
pub use Rattle.std.specs.Prelude.{IsSomeAnd}
pub use Rattle.std.specs.Result.{OnErr, OnOk, is_err}
pub use Rattle.std.specs.declared.cmp.Ordering.TheVariants.{Less}
pub use Rattle.markdown_base.proofs.Common.{every-append, every-map}
pub use Rattle.markdown_base.specs.Events.{EachEnd, EndsBelow, IsBalanced, empty, is_enter, relinked, same_name, span, with_ends}
pub use Rattle.markdown_base.specs.contracts.event.Name.{the_type}
pub use Rattle.markdown_base.specs.declared.event.Event.{Event}
pub use Rattle.markdown_base.specs.declared.event.Kind.{Kind}
pub use Rattle.markdown_base.specs.declared.event.Kind.TheVariants.{Enter, Exit}
pub use Rattle.markdown_base.specs.declared.event.Link.{Link}
pub use Rattle.markdown_base.specs.declared.event.Name.{Name}
pub use denote.Enum.Bare.{same_true, true_same}
pub use Rattle.markdown_edits.specs.Edited.{as_addition, as_change, edited}
pub use Rattle.markdown_edits.specs.Edits.{AreBehind, AreDisjoint, Edit, added_after, added_before, added_by, edit_at, is_no_edit, merged, put_after, put_before, put_by, removal_at}
pub use Rattle.markdown_edits.specs.Links.{IsLinkedEnter, next_of, previous_of, updated_at, with_next, with_previous}
pub use Rattle.markdown_base.specs.OpenNames.{names_after, names_after_all}
pub use Rattle.markdown_edits.specs.Shifts.{AreShifts, place_by, shifts}
pub use Rattle.markdown_edits.specs.SpanWalks.{IsFront, IsLongestRunFrom, IsLongestRunTo, IsSpan, IsSpanRun, is_wanted, no_span, one_more}
pub use Rattle.markdown_edits.specs.SpanWalksInner.{depth_after, flip, flip_kind, is_stop, mirror, run_len}
pub use Rattle.markdown_edits.specs.Spliced.{place_from, relinked_by, spliced}
pub use Rattle.markdown_edits.specs.Stored.{IsAscending, IsPart, as_edit, edits_of, moved_by, part_edit, pooled}
pub use Rattle.markdown_edits.specs.Survivors.{AreNew, KeepsLinks, KeepsOrder, StaysAsItWas, StaysUnlessRemoved, place_after}
pub use Rattle.markdown_edits.specs.Woven.{Change, Identity, Tagged, as_listed, events_at, is_removed, of_list, place_in, placed_end, placed_in, woven}
pub use Rattle.markdown_edits.specs.declared.entry.Entry.{Entry}
pub use Rattle.markdown_edits.specs.declared.replacement.Replacement.{Replacement}
pub use Rattle.markdown_edits.specs.declared.shift.Shift.{Shift}
pub use Rattle.std.proofs.lemmas.Bool.Decides.{nat_tests}
pub use Rattle.std.proofs.lemmas.Grind.{common_steps}
