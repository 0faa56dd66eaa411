-- What the proofs of this crate cite from below them: words of std, of the crates below and of specs.
pub use Rattle.std.proofs.Common.{Bool, List, None, Ok, Option, Some, [], ap, append-nil, append_assoc, arith, cond, drop, false, get_or, inl, inr, length, length-append, map, min, refl, replicate, set, subst, suc, sym, take, true, zero, ℕ, ◌*◌, ◌++◌, ◌+◌, ◌-◌, ◌/◌, ◌<◌, ◌∙◌, ◌∷◌, ◌≡◌, ◌≢◌, ◌≤◌}
pub use Rattle.std.proofs.Math.Seq.{drop-append-add, drop-append_seam, drop-cons, drop-length, get_or-append_seam, set-append_seam, take-append-add, take-append_seam, take-length, take-suc}
pub use Rattle.std.proofs.lemmas.Bool.{agree_below, agree_below_at, and_from, and_left, and_parts, and_right, cases_Bool, cases_eq, cases_lt, eq-eqb, eqb-true, false≢true, le-leb, leb-true, lt-leb, lt-ltb, ne_eqb, or_from, or_left, or_right, true≢false}
pub use Rattle.std.proofs.lemmas.Bool.Decides.{nat_tests}
pub use Rattle.std.proofs.lemmas.List.{drop-append-le, drop-drop, drop_min, drop_more, get_or-set_other, get_or-set_same, get_or_append_left, get_or_default, length-drop, length-map, length-set, length-take-le, map-append, map-set, nil_from_length, reverse-append, take-append-drop, take_all}
pub use Rattle.std.proofs.lemmas.List.Elements.{All-get_or, All-head, All-tail, filter-append}
pub use Rattle.std.proofs.lemmas.Option.{get_or_from_slice_get, same_Some, slice_get-get_or, slice_get-map, slice_get_read, slice_get_within}
pub use Rattle.std.proofs.lemmas.Str.{IsCharBoundary-start, IsUtf8-encode, IsUtf8-from_is_utf8, IsUtf8-take, chars-append, chars-encodes, chars-nil, chars_past_char, encodes-chars, is_utf8-from_IsUtf8, length-encode, scalars-chars}
pub use Rattle.std.specs.Char.{IsScalar, encode_utf8, is_ascii_punctuation, is_ascii_whitespace}
pub use Rattle.std.specs.List.{filter}
pub use Rattle.std.specs.Option.{is_some, option_or, unwrap_or}
pub use Rattle.std.specs.Prelude.{IfSome, IsCharBoundary, IsUtf8, MatchOption, chars, nat_le, nat_lt, not, option_map, reverse, slice_get, slice_index, slice_index_or, ◌&&◌, ◌==◌, ◌||◌, ◌⊎◌}
pub use Rattle.std.specs.Str.{all_scalars, encode_utf8_all, is_utf8}
pub use Rattle.markdown_base.proofs.Common.{and-false-never, and-right, get-front}
pub use Rattle.markdown_base.specs.Events.{EachEnd, EndsBelow, IsBalanced, is_enter, same_name}
pub use Rattle.markdown_base.specs.declared.event.Event.{Event}
pub use Rattle.markdown_base.specs.declared.event.Kind.{Kind, Kind as EventKind}
pub use Rattle.markdown_base.specs.declared.event.Kind.TheVariants.{Enter, Exit}
pub use Rattle.markdown_base.specs.declared.event.Name.{Name}
pub use Rattle.markdown_base.specs.declared.event.Name.TheVariants.{AttentionSequence, Data}
pub use Rattle.markdown_base.specs.declared.event.Point.{Point}
pub use Rattle.markdown_base.specs.declared.util.char.Kind.TheVariants.{Other, Punctuation, Whitespace}
pub use Rattle.markdown_base.proofs.Balanced.{balanced_from_open, names-none, names_after_all-append, names_after_balanced, same_name-refl, same_name-true}
pub use Rattle.markdown_edits.proofs.Edits.Splices.{edited-spliced}
pub use Rattle.markdown_edits.proofs.Edits.Survivors.{slice_get-behind}
pub use Rattle.markdown_edits.specs.Edited.{edited}
pub use Rattle.markdown_edits.specs.Edits.{AreDisjoint, Edit, edit_at, put_after, removal_at}
pub use Rattle.markdown_base.specs.OpenNames.{names_after, names_after_all}
pub use Rattle.markdown_edits.specs.Spliced.{relinked_by, spliced}
pub use Rattle.markdown_tokenizer.proofs.Readings.Plain.{no-links-append, no-links-below, no-links-drop, no-links-take, unlinked-same}
pub use Rattle.markdown_tokenizer.specs.Plain.{HaveNoLinks}
pub use Rattle.mdinline_emphasis.specs.Beside.{AreBeside, AreUnpaired, PairsBeside}
pub use Rattle.mdinline_emphasis.specs.Classes.{AsciiHasItsClasses, BeginWith, CharsAreUtf8, EndWith, are_sorted, char_of, class_at_end, class_of, first_char, in_ranges, last_bytes, last_char, only, shown_char}
pub use Rattle.mdinline_emphasis.specs.Costs.{above, emphasis_a_run, ends_at, ends_of_pairs, kinds_of_runs, looks, markers_left, pairs_a_run, to_pay, waiting_from}
pub use Rattle.mdinline_emphasis.specs.Emphasis.{Delimiter, Pair, Run, all_in_pairs, are_both, close_pairs, closes_yet, closings, data_of, events_of_runs, gave, have_two, head_events, in_lists, in_pairs, inner_name, is_tilde, later, lengths_fit, look_back, marker_byte, markers_of, markers_of_all, may_pair, on_stack, openings, opens_yet, outer_name, paired, pairs_from, run_events, same, style_of, styles, tail_events}
pub use Rattle.mdinline_emphasis.specs.InTurn.{Found, SoFar, Waiting, all_runs, all_waiting, close, closing, in_turn_from, last_fitting, none_read, opening, paired_in_turn, put, put_back, put_behind}
pub use Rattle.mdinline_emphasis.specs.LawStatements.{AreFresh, EndsTakeMarkers, LeavesBalanced, RunsAreFew}
pub use Rattle.mdinline_emphasis.specs.Places.{AllHaveRoom, AreApart, ArePlacesInside, HasRoom, Standing, markers, standing}
pub use Rattle.mdinline_emphasis.specs.RunEdits.{EditsMakeEmphasis, EmphasisCanBeMade, HasRunsAt, edits_of, in_place, index_of}
pub use Rattle.mdinline_emphasis.specs.Runs.{depth_after, end_before, index_of_event, is_sequence, marker_from, may_mark, run_at, runs_from, runs_in, text_before, text_behind}
pub use Rattle.mdinline_emphasis.specs.Searches.{AreBottoms, AreInOrder, IsNext, NoneFitsBefore, Stands, StandsAt, as_run, kind, last_of, left_of, marker_number, may_pair_there, positions, run_there, third, with_pair, with_pair_of}
pub use Rattle.mdinline_emphasis.specs.declared.pairs.Delimiters.{Delimiters}
pub use Rattle.mdinline_emphasis.specs.declared.unicode.TheConstants.{PUNCTUATION, WHITE_SPACE}
pub use Rattle.markdown_base.proofs.Facts.Bools.{and-left}
pub use Rattle.markdown_base.proofs.Facts.Lists.{get-take}
pub use Rattle.mdinline_emphasis.specs.declared.pairs.Marker.{Marker}
pub use Rattle.mdinline_emphasis.specs.declared.pairs.Style.{Style}
pub use Rattle.mdinline_emphasis.specs.declared.pairs.Style.TheVariants.{Emphasis as OfEmphasis, Strong as OfStrong, Struck, StruckTwice}
