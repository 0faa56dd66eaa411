-- The fronts of names in order: how they compare to other bytes, and the first that is these bytes.
use Rattle.mdinline_characters.proofs.Orders.{is_lt-Less}
use Rattle.mdinline_characters.proofs.Prelude.{◌≡◌, ℕ, zero, suc, ◌<◌, ◌≤◌, ◌⊎◌, inl, inr, ◌++◌, List, [], ◌∷◌, Bool, true, false, cond, length, take, refl, sym, ap, subst, ◌∙◌, arith, get_or, cases_lt, Ordering, Less, Equal, Greater, length-map, Less-from_sorted, is_eq-slice_cmp, get_or_from_slice_get, same_Some, slice_get-map, slice_get_within, slice_cmp, nat_list_cmp_total, nat_cmp-IsAntisymmetric, slice_cmp-IsAntisymmetric, find, slice_get, slice_index_or, IsPartitionedBy, IsPartitionPoint, IsStrictlySortedBy, keys_of, option_map, is_eq, is_lt, nat_cmp, ordering_then, Option, None, Some, bytes_eq, Reference, starts_with, first_from, read}
use Rattle.mdinline_characters.proofs.Searches.{Entry, entry, key_at}

then_Equal : (o : Ordering) → ordering_then o Equal ≡ o
then_Equal Less = refl
then_Equal Equal = refl
then_Equal Greater = refl

then_assoc : (a b c : Ordering) → ordering_then a (ordering_then b c) ≡ ordering_then (ordering_then a b) c
then_assoc Less b c = refl
then_assoc Equal b c = refl
then_assoc Greater b c = refl

-- the order of a front: by these bytes, and then by one more
pub longer-front : (name start : List ℕ) (next d : ℕ) → length start < length name
    → slice_cmp nat_cmp (take (suc (length start)) name) (start ++ (next ∷ [])) ≡ ordering_then (slice_cmp nat_cmp (take (length start) name) start) (nat_cmp (get_or name (length start) d) next)
longer-front [] start next d h = absurd (omega (arith, h))
longer-front (n ∷ ns) [] next d h = then_Equal (nat_cmp n next)
longer-front (n ∷ ns) (s ∷ ss) next d h =
    ap (ordering_then (nat_cmp n s)) (longer-front ns ss next d (omega (arith, h)))
    ∙ then_assoc (nat_cmp n s) (slice_cmp nat_cmp (take (length ss) ns) ss) (nat_cmp (get_or ns (length ss) d) next)

-- a name that is no longer is below
pub shorter-front : (name start : List ℕ) (next : ℕ) → length name ≤ length start
    → slice_cmp nat_cmp (take (suc (length start)) name) (start ++ (next ∷ [])) ≡ ordering_then (slice_cmp nat_cmp name start) Less
shorter-front [] [] next h = refl
shorter-front [] (s ∷ ss) next h = refl
shorter-front (n ∷ ns) [] next h = absurd (omega (arith, h))
shorter-front (n ∷ ns) (s ∷ ss) next h =
    ap (ordering_then (nat_cmp n s)) (shorter-front ns ss next (omega (arith, h))) ∙ then_assoc (nat_cmp n s) (slice_cmp nat_cmp ns ss) Less

-- fronts do not fall where names rise
fronts-rise : (k : ℕ) (a b : List ℕ) → slice_cmp nat_cmp a b ≡ Less → (slice_cmp nat_cmp (take k a) (take k b) ≡ Less) ⊎ (take k a ≡ take k b)
fronts-rise zero a b h = inr refl
fronts-rise (suc k) [] [] h = absurd (cc)
fronts-rise (suc k) [] (y ∷ ys) h = inl refl
fronts-rise (suc k) (x ∷ xs) [] h = absurd (cc)
fronts-rise (suc k) (x ∷ xs) (y ∷ ys) h = of (nat_cmp x y) refl h (fronts-rise k xs ys)
  where
    of : (o : Ordering) → nat_cmp x y ≡ o → ordering_then o (slice_cmp nat_cmp xs ys) ≡ Less → (slice_cmp nat_cmp xs ys ≡ Less → (slice_cmp nat_cmp (take k xs) (take k ys) ≡ Less) ⊎ (take k xs ≡ take k ys))
        → (ordering_then (nat_cmp x y) (slice_cmp nat_cmp (take k xs) (take k ys)) ≡ Less) ⊎ (x ∷ take k xs ≡ y ∷ take k ys)
    of Less e less rest = inl (ap (λ o. ordering_then o (slice_cmp nat_cmp (take k xs) (take k ys))) e)
    of Equal e less rest = elim (rest less) [
      | inl below ↦ inl (ap (λ o. ordering_then o (slice_cmp nat_cmp (take k xs) (take k ys))) e ∙ below)
      | inr same ↦ inr (λ i. nat_cmp-IsAntisymmetric x y e i ∷ same i)
    ]
    of Greater e less rest = absurd (cc)

module _ (k : ℕ) (s a b : List ℕ) (less : slice_cmp nat_cmp a b ≡ Less) where
  -- before a front that is below there are only such
  below-before : slice_cmp nat_cmp (take k b) s ≡ Less → slice_cmp nat_cmp (take k a) s ≡ Less
  below-before h = elim (fronts-rise k a b less) [
    | inl below ↦ nat_list_cmp_total.trans (take k a) (take k b) s below h
    | inr same ↦ ap (λ l. slice_cmp nat_cmp l s) same ∙ h
  ]

  -- and behind one that is above there are only such
  above-behind : slice_cmp nat_cmp (take k a) s ≡ Greater → slice_cmp nat_cmp (take k b) s ≡ Greater
  above-behind h = of (slice_cmp nat_cmp (take k b) s) refl
    where
      of : (o : Ordering) → slice_cmp nat_cmp (take k b) s ≡ o → o ≡ Greater
      of Less e = absurd (let f = below-before e in cc)
      of Equal e =
          let same = slice_cmp-IsAntisymmetric nat_cmp-IsAntisymmetric (take k b) s e in
          elim (fronts-rise k a b less) [
            | inl below ↦ absurd (let f = subst (λ l. slice_cmp nat_cmp (take k a) l ≡ Less) same below in cc)
            | inr equal ↦ absurd (let f = ap (λ l. slice_cmp nat_cmp l s) equal ∙ e in cc)
          ]
      of Greater e = refl

-- the first of a list that passes a test, by the places
find-none : (p : List ℕ → Bool) (ns : List (List ℕ)) → ((j : ℕ) (n : List ℕ) → slice_get ns j ≡ Some n → p n ≡ false) → find p ns ≡ None
find-none p [] h = refl
find-none p (n ∷ ns) h = ap (λ t. cond t (Some n) (find p ns)) (h 0 n refl) ∙ find-none p ns (λ j m e. h (suc j) m e)

find-first : (p : List ℕ → Bool) (ns : List (List ℕ)) (i : ℕ) (n : List ℕ) → slice_get ns i ≡ Some n → p n ≡ true
    → ((j : ℕ) (m : List ℕ) → j < i → slice_get ns j ≡ Some m → p m ≡ false) → find p ns ≡ Some n
find-first p [] i n at is h = absurd (cc)
find-first p (m ∷ ms) zero n at is h =
    let same : m ≡ n = cc in
    ap (λ t. cond t (Some m) (find p ms)) (ap p same ∙ is) ∙ ap (λ l. Some l) same
find-first p (m ∷ ms) (suc i) n at is h = ap (λ t. cond t (Some m) (find p ms)) (h 0 m (omega arith) refl) ∙ find-first p ms i n at is (λ j l b e. h (suc j) l (omega (arith, b)) e)

module _ (references : List Entry) (s : List ℕ) (k : ℕ) (size : length s ≡ k) (sorted : IsStrictlySortedBy (slice_cmp nat_cmp) (keys_of (read references))) where
  -- how the front of a name compares
  abbrev pub order : Entry → Ordering
  order e = slice_cmp nat_cmp (take k e.0) s

  names_rise : (i j : ℕ) (d : Entry) → i < j → j < length references → slice_cmp nat_cmp (slice_index_or references i d).0 (slice_index_or references j d).0 ≡ Less
  names_rise i j d below within =
      let long : length (keys_of (read references)) ≡ length references = length-map (read references) (λ (e : Reference). e.0) ∙ length-map references entry in
      let less = Less-from_sorted (slice_cmp nat_cmp) (keys_of (read references)) i j d.0 sorted below (omega (arith, long, within)) in
      rw (key_at references [] sorted i d, key_at references [] sorted j d) at less

  pub parted : IsPartitionedBy (λ e. is_lt (order e)) references
  parted i j d upto within before = elim (cases_lt i j) [
    | inl below ↦ ap is_lt (below-before k s (slice_index_or references i d).0 (slice_index_or references j d).0 (names_rise i j d below within) (is_lt-Less (order (slice_index_or references j d)) before))
    | inr not ↦ (let same : j ≡ i = omega (arith, not, upto) in subst (λ m. is_lt (order (slice_index_or references m d)) ≡ true) same before)
  ]

  -- a name of the list, by its place
  entry_at : (j : ℕ) (name : List ℕ) → slice_get (keys_of (read references)) j ≡ Some name → (e : Entry) × (slice_get references j ≡ Some e) × (e.0 ≡ name)
  entry_at j name is = of (slice_get references j) refl (sym (slice_get-map (λ (e : Reference). e.0) (read references) j ∙ ap (option_map (λ (e : Reference). e.0)) (slice_get-map entry references j)) ∙ is)
    where
      of : (o : Option Entry) → slice_get references j ≡ o → option_map (λ (e : Reference). e.0) (option_map entry o) ≡ Some name → (e : Entry) × (slice_get references j ≡ Some e) × (e.0 ≡ name)
      of None at none = absurd (cc)
      of (Some e) at same = (e, at, same_Some e.0 name same)

  module _ (i : ℕ) (parts : IsPartitionPoint (λ e. is_lt (order e) ≡ true) (λ e. is_lt (order e) ≡ false) references i) where
    other : (name : List ℕ) (o : Ordering) → slice_cmp nat_cmp (take k name) s ≡ o → is_eq o ≡ false → starts_with s name ≡ false
    other name o e differs = ap (λ n. bytes_eq (take n name) s) size ∙ sym (is_eq-slice_cmp (take k name) s) ∙ ap is_eq e ∙ differs

    none-before : (j : ℕ) (name : List ℕ) → j < i → slice_get (keys_of (read references)) j ≡ Some name → starts_with s name ≡ false
    none-before j name before is =
        let e = entry_at j name is in
        let less = subst (λ (r : Entry). is_lt (order r) ≡ true) (get_or_from_slice_get references j e.0 e.0 e.1) (parts.0 j e.0 (omega arith) before) in
        other name Less (ap (λ n. slice_cmp nat_cmp (take k n) s) (sym e.2) ∙ is_lt-Less (order e.0) less) refl

    -- behind all names none begins so
    pub none-at-end : length references ≤ i → first_from (read references) s ≡ None
    none-at-end past =
        find-none (starts_with s) (keys_of (read references)) (λ j name is.
        let e = entry_at j name is in
        let within = slice_get_within references j e.0 e.1 in none-before j name (omega (arith, past, within)) is)

    -- the name at the place begins so
    pub first-there : (e : Entry) → slice_get references i ≡ Some e → order e ≡ Equal → first_from (read references) s ≡ Some e.0
    first-there e at is =
        let place : slice_get (keys_of (read references)) i ≡ Some e.0 = slice_get-map (λ (e : Reference). e.0) (read references) i ∙ ap (option_map (λ (e : Reference). e.0)) (slice_get-map entry references i ∙ ap (option_map entry) at) in
        find-first (starts_with s) (keys_of (read references)) i e.0 place
        (ap (λ n. bytes_eq (take n e.0) s) size ∙ sym (is_eq-slice_cmp (take k e.0) s) ∙ ap is_eq is) none-before

    -- or none does
    pub none-there : (e : Entry) → slice_get references i ≡ Some e → is_eq (order e) ≡ false → first_from (read references) s ≡ None
    none-there e at differs =
        let within = slice_get_within references i e at in
        let here = subst (λ (r : Entry). is_lt (order r) ≡ false) (get_or_from_slice_get references i e e at) (parts.1 i e (omega arith) within) in
        let above = is-greater (order e) here differs in
        find-none (starts_with s) (keys_of (read references)) (λ j name is.
        elim (cases_lt j i) [
          | inl before ↦ none-before j name before is
          | inr not ↦ later j name is above within not
        ])
      where
        is-greater : (o : Ordering) → is_lt o ≡ false → is_eq o ≡ false → o ≡ Greater
        is-greater Less h n = absurd (cc)
        is-greater Equal h n = absurd (cc)
        is-greater Greater h n = refl

        later : (j : ℕ) (name : List ℕ) → slice_get (keys_of (read references)) j ≡ Some name → order e ≡ Greater → i < length references → i ≤ j → starts_with s name ≡ false
        later j name is above within upto =
            let d = entry_at j name is in
            let there = slice_get_within references j d.0 d.1 in
            let at_i : slice_index_or references i e ≡ e = get_or_from_slice_get references i e e at in
            let at_j : slice_index_or references j e ≡ d.0 = get_or_from_slice_get references j d.0 e d.1 in
            other name Greater
            (ap (λ n. slice_cmp nat_cmp (take k n) s) (sym d.2)
            ∙ elim (cases_lt i j) [
              | inl below ↦
                  let less = subst (λ (r : Entry). slice_cmp nat_cmp r.0 d.0.0 ≡ Less) at_i (subst (λ (r : Entry). slice_cmp nat_cmp (slice_index_or references i e).0 r.0 ≡ Less) at_j (names_rise i j e below there)) in
                  above-behind k s e.0 d.0.0 less above
              | inr not ↦
                  let same : j ≡ i = omega (arith, not, upto) in
                  ap (λ (r : Entry). slice_cmp nat_cmp (take k r.0) s) (sym at_j ∙ ap (λ m. slice_index_or references m e) same ∙ at_i) ∙ above
            ]) refl
