-- What the proofs of this crate cite from below them: words of std, of the crates below and of specs.
pub use Rattle.mdinline_labels.specs.Costs.{IsEnded, IsPaid, TriesTitle}
pub use Rattle.mdinline_labels.specs.Defined.{defines}
pub use Rattle.mdinline_labels.specs.Definitions.{definition_at, definitions, definitions_from, end, line_left, rest, rest_from, stretch_at}
pub use Rattle.mdinline_labels.specs.Labels.{begins_character, characters, collapsed, folded, folded_text, has_no_bracket, hides, is_bracket, is_filled, is_label, is_label_white, normalised}
pub use Rattle.mdinline_labels.specs.Resources.{resource_at}
pub use Rattle.mdinline_labels.specs.Tails.{begins_title, begins_with, destination_size, gap, is_white, label_size, line_ends, title_end, title_size}
pub use Rattle.mdinline_labels.specs.declared.definitions.Definition.{Definition}
pub use Rattle.mdinline_labels.specs.declared.definitions.Stretch.{Stretch}
pub use Rattle.std.proofs.Common.{Bool, Equal, Err, Greater, IfOk, IfSome, Less, List, None, Ok, Option, Ordering, Some, [], add-one, add_assoc, ap, arith, codes, cond, drop, false, inl, inr, length, length-drop, map, nat_le, not, refl, replicate, subst, suc, sym, take, true, zero, ℕ, ◌*◌, ◌++◌, ◌+◌, ◌-◌, ◌<◌, ◌∙◌, ◌∷◌, ◌≡◌, ◌≤◌, ◌⊎◌}
pub use Rattle.std.proofs.Math.Bool.{or_assoc}
pub use Rattle.std.proofs.UnicodeAscii.{to_lowercase_ascii, to_uppercase_ascii}
pub use Rattle.std.proofs.lemmas.Bool.{cases_Bool, eqb-true, false≢true, ne_eqb}
pub use Rattle.std.proofs.lemmas.Bool.Decides.{Decides-eqb}
pub use Rattle.std.proofs.lemmas.Grind.{common_steps, flat_map-append}
pub use Rattle.std.proofs.lemmas.List.{append-nil, append_assoc, drop-drop, drop_all, nil_from_length}
pub use Rattle.std.proofs.lemmas.List.Sums.{prefix_len-le-length}
pub use Rattle.std.proofs.lemmas.Map.Iter.{iter_end}
pub use Rattle.std.proofs.lemmas.Map.Text.{is_eq-slice_cmp}
pub use Rattle.std.proofs.lemmas.Option.{cond_some, none-some}
pub use Rattle.std.proofs.lemmas.Slice.Eq.{slice_eq-Decides}
pub use Rattle.std.proofs.lemmas.Result.{IfOk-weaker, on_ok_weaker}
pub use Rattle.std.proofs.lemmas.Str.{IsUtf8-from_is_utf8, IsUtf8-past_char, chars-IsAscii, chars-nil, chars_past_char, encodes-IsAscii, encodes-append, is_utf8-from_IsUtf8}
pub use Rattle.std.proofs.lemmas.Str.Ascii.{IsAscii-map}
pub use Rattle.std.specs.BTreeSet.{insert_key}
pub use Rattle.std.specs.Bool.{Decides}
pub use Rattle.std.specs.Char.{to_ascii_lowercase, to_ascii_uppercase}
pub use Rattle.std.specs.Char.Iter.{case_mapping_chars, case_mapping_first, case_mapping_second, case_mapping_third}
pub use Rattle.std.specs.Char.Unicode.ToLowercase.{to_lowercase}
pub use Rattle.std.specs.Char.Unicode.ToUppercase.{to_uppercase}
pub use Rattle.std.specs.Cmp.Lexicographic.{pointwise, slice_cmp}
pub use Rattle.std.specs.FinMap.{nat_cmp-IsAntisymmetric, slice_cmp-IsAntisymmetric}
pub use Rattle.std.specs.List.{each_same, list_any, prefix_len}
pub use Rattle.std.specs.Map.Iter.{deref}
pub use Rattle.std.specs.Option.{is_some}
pub use Rattle.std.specs.Ordering.{is_eq, match_ordering, nat_cmp}
pub use Rattle.std.specs.Prelude.{IsAscii, IsUtf8, bytes_eq, chars, encode_utf8, encode_utf8_all, flat_map, option_to_list, string_bytes, ◌&&◌, ◌==◌, ◌||◌}
pub use Rattle.std.specs.declared.char.ToLowercase.{CaseChanged}
pub use Rattle.std.specs.Str.{is_utf8}
pub use Rattle.std.specs.Str.Iter.{chars_rest}
