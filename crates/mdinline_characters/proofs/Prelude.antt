-- What the proofs of this crate cite from below them: words of std, of the crates below and of specs.
pub use Rattle.std.proofs.Common.{Bool, Bor, Equal, Greater, Less, List, Ordering, [], ap, arith, cond, eq-eqb, eqb-true, false, get_or, inl, inr, length, nat_le, refl, subst, suc, sym, take, true, zero, ℕ, ◌&&◌, ◌++◌, ◌+◌, ◌<◌, ◌==◌, ◌||◌, ◌∙◌, ◌∷◌, ◌≡◌, ◌≤◌, ◌⊎◌}
pub use Rattle.std.proofs.Math.ListN.{get_or-map}
pub use Rattle.std.proofs.lemmas.Bool.{and_parts, cases_lt, lt-leb, ltb-false, ltb-true}
pub use Rattle.std.proofs.lemmas.Fn.{always_returns_same}
pub use Rattle.std.proofs.lemmas.List.{length-append, length-map}
pub use Rattle.std.proofs.lemmas.List.Sorted.{searchable_from_sorted}
pub use Rattle.std.proofs.lemmas.Map.Entries.{lookup-filter-keys, lookup_at_gap, lookup_from_place}
pub use Rattle.std.proofs.lemmas.Map.Keys.{IsDistinct-from_sorted, Less-from_sorted}
pub use Rattle.std.proofs.lemmas.Map.Text.{is_eq-slice_cmp}
pub use Rattle.std.proofs.lemmas.Option.{get_or_from_slice_get, same_Some, slice_get-map, slice_get_read, slice_get_within}
pub use Rattle.std.proofs.lemmas.Slice.Eq.{bytes_eq-Decides}
pub use Rattle.std.specs.Char.{is_ascii_alphanumeric}
pub use Rattle.std.specs.Cmp.Lexicographic.{nat_list_cmp_total, nat_list_eq_equiv, slice_cmp}
pub use Rattle.std.specs.FinMap.{nat_cmp-IsAntisymmetric, slice_cmp-IsAntisymmetric}
pub use Rattle.std.specs.List.{AllByRecursion, HoldsAt, IsDistinct, filter, find, list_all, list_any, slice_get, slice_index_or}
pub use Rattle.std.specs.List.Sorted.{IsNonDecreasingBy, IsPartitionPoint, IsPartitionedBy, IsStrictlySortedBy}
pub use Rattle.std.specs.Map.{keys_of, lookup}
pub use Rattle.std.specs.Option.{is_some, option_copied, option_map, option_or}
pub use Rattle.std.specs.Ordering.{is_eq, is_lt, nat_cmp, ordering_index, ordering_reverse, ordering_then}
pub use Rattle.std.specs.Prelude.{None, Option, Some, bytes_eq}
pub use Rattle.mdinline_characters.specs.CharacterReferences.{Reference, character_references}
pub use Rattle.mdinline_characters.specs.References.{starts_with, characters_in, characters_of, code_points, first_from, lengths, name_among, of_length, read}
pub use Rattle.mdinline_characters.specs.declared.table.TheConstants.{NAMES_OF_10, NAMES_OF_11, NAMES_OF_12, NAMES_OF_13, NAMES_OF_14, NAMES_OF_15, NAMES_OF_16, NAMES_OF_17, NAMES_OF_18, NAMES_OF_19, NAMES_OF_2, NAMES_OF_20, NAMES_OF_21, NAMES_OF_22, NAMES_OF_23, NAMES_OF_24, NAMES_OF_3, NAMES_OF_31, NAMES_OF_4, NAMES_OF_5, NAMES_OF_6, NAMES_OF_7, NAMES_OF_8, NAMES_OF_9}
