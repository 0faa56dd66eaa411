-- What a search by halves finds among names in order.
use Rattle.mdinline_characters.proofs.Prelude.{◌≡◌, ℕ, ◌+◌, List, Bool, length, refl, sym, ap, subst, ◌∙◌, arith, Less, Equal, Greater, get_or-map, length-map, searchable_from_sorted, lookup_at_gap, lookup_from_place, IsDistinct-from_sorted, Less-from_sorted, is_eq-slice_cmp, get_or_from_slice_get, same_Some, slice_get-map, slice_get_within, slice_cmp, nat_list_cmp_total, nat_list_eq_equiv, nat_cmp-IsAntisymmetric, slice_cmp-IsAntisymmetric, HoldsAt, IsDistinct, slice_get, slice_index_or, IsNonDecreasingBy, IsPartitionPoint, IsStrictlySortedBy, keys_of, lookup, option_map, is_lt, nat_cmp, ordering_index, ordering_reverse, Option, None, Some, bytes_eq, Reference, characters_in, code_points, read}

abbrev pub Entry : Type 0
Entry = List ℕ × ℕ × Option ℕ

abbrev pub entry : Entry → Reference
entry e = (e.0, code_points (e.1, e.2))

module _ (references : List Entry) (name : List ℕ) (sorted : IsStrictlySortedBy (slice_cmp nat_cmp) (keys_of (read references))) where
  apart : IsDistinct bytes_eq (keys_of (read references))
  apart = subst (λ (e : List ℕ → List ℕ → Bool). IsDistinct e (keys_of (read references))) (λ i x y. is_eq-slice_cmp x y i) (IsDistinct-from_sorted (slice_cmp nat_cmp) (keys_of (read references)) sorted)

  pub found : (i : ℕ) (reference : Entry) → HoldsAt (λ (y : Entry). slice_cmp nat_cmp y.0 name ≡ Equal) references i → slice_get references i ≡ Some reference
      → characters_in (read references) name ≡ Some (code_points (reference.1, reference.2))
  found i reference at is =
      let here : slice_cmp nat_cmp reference.0 name ≡ Equal = subst (λ (r : Entry). slice_cmp nat_cmp r.0 name ≡ Equal) (get_or_from_slice_get references i reference reference is) (at reference) in
      let same : reference.0 ≡ name = slice_cmp-IsAntisymmetric nat_cmp-IsAntisymmetric reference.0 name here in
      let place : slice_get (read references) i ≡ Some (entry reference) = slice_get-map entry references i ∙ ap (option_map entry) is in
      subst (λ (n : List ℕ). lookup (bytes_eq n) (read references) ≡ Some (code_points (reference.1, reference.2))) same
      (lookup_from_place nat_list_eq_equiv (read references) i reference.0 (code_points (reference.1, reference.2)) apart place)

  -- an entry of the list, by its reference
  entry_at : (j : ℕ) (reference : Reference) → slice_get (read references) j ≡ Some reference → (e : Entry) × (slice_get references j ≡ Some e) × (e.0 ≡ reference.0)
  entry_at j reference is = of (slice_get references j) refl (sym (slice_get-map entry references j) ∙ is)
    where
      of : (o : Option Entry) → slice_get references j ≡ o → option_map entry o ≡ Some reference → (e : Entry) × (slice_get references j ≡ Some e) × (e.0 ≡ reference.0)
      of None at none = cc
      of (Some e) at same = (e, at, ap (λ (r : Reference). r.0) (same_Some (entry e) reference same))

  pub missing : (i : ℕ) → IsPartitionPoint (λ (y : Entry). slice_cmp nat_cmp y.0 name ≡ Less) (λ (y : Entry). slice_cmp nat_cmp y.0 name ≡ Greater) references i
      → characters_in (read references) name ≡ None
  missing i parts =
      subst (λ (test : List ℕ → Bool). lookup test (read references) ≡ None) (λ i key. is_eq-slice_cmp name key i)
      (lookup_at_gap nat_list_cmp_total name (read references) i sorted
      (λ j reference before is.
      let e = entry_at j reference is in
      let less : slice_cmp nat_cmp e.0.0 name ≡ Less = subst (λ (r : Entry). slice_cmp nat_cmp r.0 name ≡ Less) (get_or_from_slice_get references j e.0 e.0 e.1) (parts.0 j e.0 (omega arith) before) in
      nat_list_cmp_total.antisymm name reference.0 ∙ ap ordering_reverse (subst (λ (n : List ℕ). slice_cmp nat_cmp n name ≡ Less) e.2 less))
      (λ reference is.
      let e = entry_at i reference is in
      let within = slice_get_within references i e.0 e.1 in
      let more : slice_cmp nat_cmp e.0.0 name ≡ Greater = subst (λ (r : Entry). slice_cmp nat_cmp r.0 name ≡ Greater) (get_or_from_slice_get references i e.0 e.0 e.1) (parts.1 i e.0 (omega arith) within) in
      nat_list_cmp_total.antisymm name reference.0 ∙ ap ordering_reverse (subst (λ (n : List ℕ). slice_cmp nat_cmp n name ≡ Greater) e.2 more)))

  pub key_at : (k : ℕ) (d : Entry) → slice_index_or (keys_of (read references)) k d.0 ≡ (slice_index_or references k d).0
  key_at k d = get_or-map (λ (e : Reference). e.0) (read references) k (entry d) ∙ ap (λ (e : Reference). e.0) (get_or-map entry references k d)

  pub rises : IsNonDecreasingBy (λ (y : Entry). ordering_index (slice_cmp nat_cmp y.0 name)) references
  rises =
      searchable_from_sorted nat_list_cmp_total (λ (e : Entry). e.0) references name
      (λ k d _ below.
      let long : length (keys_of (read references)) ≡ length references = length-map (read references) (λ (e : Reference). e.0) ∙ length-map references entry in
      let less = Less-from_sorted (slice_cmp nat_cmp) (keys_of (read references)) k (k + 1) d.0 sorted (omega arith) (omega arith) in
      let pair : slice_cmp nat_cmp (slice_index_or references k d).0 (slice_index_or references (k + 1) d).0 ≡ Less = rw (key_at k d, key_at (k + 1) d) at less in
      ap is_lt (nat_list_cmp_total.antisymm (slice_index_or references (k + 1) d).0 (slice_index_or references k d).0 ∙ ap ordering_reverse pair))
