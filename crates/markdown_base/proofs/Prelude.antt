-- What the proofs of this crate cite from below them: words of std, of the crates below and of specs.
pub use Rattle.std.proofs.Common.{Bool, Bor, List, [], add-one, ap, arith, cond, drop, drop-cons, eq-eqb, eqb-true, false, get_or, inl, inr, le-leb, le-ltb, leb, leb-false, leb-true, length, lt-ltb, ltb-false, ltb-true, max, min, nat_le, ne_eqb, refl, rules, subst, suc, sym, take, tests, true, zero, ℕ, ⊎_elim, ◌%◌, ◌*◌, ◌++◌, ◌+◌, ◌-◌, ◌/◌, ◌<◌, ◌^◌, ◌||◌, ◌↔◌, ◌∙◌, ◌∷◌, ◌≡◌, ◌≢◌, ◌≤◌, ◌⊎◌}
pub use Rattle.std.proofs.Math.Bool.{and-false}
pub use Rattle.std.proofs.Math.Nat.{max-eq_right, mod-lt, mul-le-mul_left}
pub use Rattle.std.proofs.Math.Seq.{drop-length, take-add}
pub use Rattle.std.proofs.lemmas.Bool.{cases_lt, false≢true}
pub use Rattle.std.proofs.lemmas.Bool.Decides.{nat_tests}
pub use Rattle.std.proofs.lemmas.Grind.{common_steps, put_two}
pub use Rattle.std.proofs.lemmas.Iterator.Adapters.{YieldsList-from_rev_slice}
pub use Rattle.std.proofs.lemmas.Iterator.Search.{find_from_yields_List}
pub use Rattle.std.proofs.lemmas.List.{append-nil, drop-drop, get_or-drop, get_or-map, get_or-take, get_or_read, length-drop, length-map, length-take, length-take-le, map-append, map-id, take-append-drop, take-map}
pub use Rattle.std.proofs.lemmas.List.Concat.{flat_map-append}
pub use Rattle.std.proofs.lemmas.List.Elements.{filter-append}
pub use Rattle.std.proofs.lemmas.List.FromFn.{filter_of_map_range_with_len_more, get_or-range_with_len, length-range_with_len}
pub use Rattle.std.proofs.lemmas.List.Kept.{IsNonDecreasingBy-filter}
pub use Rattle.std.proofs.lemmas.List.Sorted.{IsNonDecreasingBy-take, IsPartitionPoint-from_clause, IsPartitionedBy-leb}
pub use Rattle.std.proofs.lemmas.Nat.{div-add-mod', mod-mul-add, mod_below}
pub use Rattle.std.proofs.lemmas.Option.{slice_get-get_or}
pub use Rattle.std.proofs.lemmas.Str.{Chars-Drains, IsCharBoundary-after_ascii, IsCharBoundary-start, IsUtf8-between, IsUtf8-take, chars-append, chars-nil, encode_ascii, encodes-chars}
pub use Rattle.std.specs.Char.{is_ascii_punctuation, is_ascii_whitespace, is_whitespace}
pub use Rattle.std.specs.Fmt.{digits, digits_output, format_spec, option_append, styled_digits_output}
pub use Rattle.std.specs.List.{AllByRecursion, AllWithin, flat_map, last_or, list_any, range_with_len}
pub use Rattle.std.specs.List.Sorted.{IsNonDecreasingBy, IsPartitionPoint}
pub use Rattle.std.specs.Option.{ForSome, MatchOption, option_eq}
pub use Rattle.std.specs.Prelude.{Err, IfOk, IfSome, IsCharBoundary, IsSome, IsUtf8, None, Ok, Option, Result, Some, String, chars, codes, filter, find, fold, map, nat_eq, nat_lt, not, option_and_then, option_map, replicate, slice_get, slice_index, slice_range, string_bytes, take_while, ◌&&◌, ◌==◌}
pub use Rattle.std.specs.Str.{encode_utf8_all}
pub use denote.Enum.Bare.{false_same, same_true, sameb, true_same}
pub use mathlib.Core.List.{append_assoc}
pub use native.Mathlib.Numerals.{unary_clauses}
pub use Rattle.markdown_base.specs.CharTexts.{code_point, shown_char}
pub use Rattle.markdown_base.specs.Classes.{IsClassOfOpt, char_after, char_before}
pub use Rattle.markdown_base.specs.Events.{open_after, open_events_from, same_name, unlinked}
pub use Rattle.markdown_base.specs.LineEndings.{ending_text}
pub use Rattle.markdown_base.specs.Lines.{HasNoLineEnding, IsKept, greatest, is_line_start, point_in}
pub use Rattle.markdown_base.specs.Places.{IsPointOf, follows_cr, in_range, lies_between, point_at, points, shown, stands_before}
pub use Rattle.markdown_base.specs.Slices.{byte_place, bytes_between, is_enter_of, nearest_enter, spaces_after, spaces_before, spaces_between}
pub use Rattle.markdown_base.specs.SlicesInner.{first_byte}
pub use Rattle.markdown_base.specs.StateNames.{state_names}
pub use Rattle.markdown_base.specs.Virtual.{Seat, begins_with_lf, document_end, end_after, end_in_tab, in_tab, line_feed, other_byte, point, tab_width, virtual, virtual_from}
pub use Rattle.markdown_base.specs.VoidNames.{void_names}
pub use Rattle.markdown_base.specs.contracts.event.Name.{the_type}
pub use Rattle.markdown_base.specs.declared.event.Event.{Event}
pub use Rattle.markdown_base.specs.declared.event.Kind.{Kind}
pub use Rattle.markdown_base.specs.declared.event.Kind.TheVariants.{Enter, Exit}
pub use Rattle.markdown_base.specs.declared.event.Link.{Link}
pub use Rattle.markdown_base.specs.declared.event.Name.{Name}
pub use Rattle.markdown_base.specs.declared.event.Name.TheVariants.{AttentionSequence}
pub use Rattle.markdown_base.specs.declared.event.Point.{Point}
pub use Rattle.markdown_base.specs.declared.util.char.Kind.TheVariants.{Punctuation, Whitespace}
pub use Rattle.markdown_base.specs.declared.util.line_ending.LineEnding.{LineEnding}
pub use Rattle.markdown_base.specs.declared.util.line_ending.LineEnding.TheVariants.{CarriageReturn, CarriageReturnLineFeed, LineFeed}
