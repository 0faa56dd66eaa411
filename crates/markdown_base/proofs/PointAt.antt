-- Lemmas on the point of a place that the virtual text reaches, and on how it moves along a line.
use Rattle.markdown_base.proofs.Prelude.{◌≡◌, ℕ, zero, suc, ◌+◌, ◌-◌, ◌<◌, ◌≤◌, inl, inr, Bool, true, false, List, [], ◌∷◌, ◌++◌, drop, refl, ap, ◌∙◌, arith, subst, eq-eqb, ◌==◌, ◌&&◌, slice_index, find, Some, AllByRecursion, flat_map, false≢true, flat_map-append, Point, Seat, point, tab_width, in_tab, other_byte, begins_with_lf, virtual_from, end_after, document_end, shown, follows_cr, point_at, IsPointOf, HasNoLineEnding, nat_tests}
use Rattle.std.proofs.lemmas.List.{append_assoc}
use Rattle.markdown_base.proofs.Scans.{IsReached, drop_is, tab_width-least, place-of}

-- the test that seeks the place of an index, no virtual byte of a tab behind its first
abbrev is_at : ℕ → Point → Bool
is_at index p = (p.index == index) && (p.vs == 0)

-- where a virtual byte is shown, and where it is
abbrev both : List ℕ → Seat → List Point
both bytes s = shown bytes s.point ∷ s.point ∷ []

-- no place before an index is at it
find_past : (bytes : List ℕ) (index : ℕ) (front : List Seat) (rest : List Point) → AllByRecursion (λ s. s.point.index < index) front → find (is_at index) (flat_map (both bytes) front ++ rest) ≡ find (is_at index) rest
find_past bytes index [] rest below = refl
find_past bytes index (s ∷ front) rest below = grind (arith, nat_tests, below.0, find_past bytes index front rest below.1)

find_here : (index line column : ℕ) (rest : List Point) → find (is_at index) (point line column index 0 ∷ rest) ≡ Some (point line column index 0)
find_here index line column rest = rw (eq-eqb index index refl) refl

-- a virtual byte at the index is found there, shown or not
find_shown : (bytes : List ℕ) (line column index : ℕ) (rest : List Point) → find (is_at index) (shown bytes (point line column index 0) ∷ point line column index 0 ∷ rest) ≡ Some (point line column index 0)
find_shown bytes line column index rest = grind (arith, nat_tests)

-- the first place of the virtual text from an index on
find_first : (t : ℕ) → 0 < t → (bytes : List ℕ) (line column index b : ℕ) (rest : List ℕ) (end : Point) → drop index bytes ≡ b ∷ rest
    → (w x y z : Bool) → (b == 10) ≡ w → (b == 13) ≡ x → begins_with_lf rest ≡ y → (b == 9) ≡ z
    → find (is_at index) (flat_map (both bytes) (virtual_from t line column index (b ∷ rest)) ++ end ∷ []) ≡ Some (point line column index 0)
find_first t some bytes line column index b rest end is true x y z ew ex ey ez = rw ew (find_shown bytes line column index _)
find_first t some bytes line column index b [] end is false true true z ew ex ey ez = absurd (false≢true ey)
find_first t some bytes line column index b (b2 ∷ rest) end is false true true z ew ex ey ez =
    let here = drop_is bytes index b (b2 ∷ rest) is in
    let shown_cr : ((slice_index bytes (suc index) == 10) && follows_cr bytes (suc index)) ≡ true = rw ((drop_is bytes (suc index) b2 rest here.2).1, ey, here.1, ex) refl in
    let same : suc index - 1 ≡ index = omega arith in
    rw (ew, ex, ey, shown_cr, same) (find_here index line column (point line column (suc index) 0 ∷ (flat_map (both bytes) (virtual_from t (suc line) 1 (suc (suc index)) rest) ++ end ∷ [])))
find_first t some bytes line column index b rest end is false true false z ew ex ey ez = rw (ew, ex, ey) (find_shown bytes line column index _)
find_first t some bytes line column index b rest end is false false y true ew ex ey ez = rw (ew, ex, ez) (go (tab_width t column) (tab_width-least t column some))
  where
    go : (width : ℕ) → 1 ≤ width → find (is_at index) (flat_map (both bytes) (in_tab 9 width line column index 0 ++ virtual_from t line (column + width) (suc index) rest) ++ end ∷ []) ≡ Some (point line column index 0)
    go zero least = absurd (omega arith)
    go (suc n) least = find_shown bytes line column index _
find_first t some bytes line column index b rest end is false false y false ew ex ey ez = rw (ew, ex, ez) (find_shown bytes line column index _)

-- the point of a place that the virtual text reaches
pub point-of_reached : (t : ℕ) → 0 < t → (bytes : List ℕ) (line column index : ℕ) → IsReached t bytes line column index → point_at t bytes (index, 0) ≡ Some (point line column index 0)
point-of_reached t some bytes line column index r =
    let rest = virtual_from t line column index (drop index bytes) in
    let parts = ap (λ xs. find (is_at index) (flat_map (both bytes) xs ++ document_end t bytes ∷ [])) r.whole
    ∙ ap (λ ps. find (is_at index) (ps ++ document_end t bytes ∷ [])) (flat_map-append (both bytes) r.front rest)
    ∙ ap (λ ps. find (is_at index) ps) (append_assoc (flat_map (both bytes) r.front) (flat_map (both bytes) rest) (document_end t bytes ∷ []))
    ∙ find_past bytes index r.front (flat_map (both bytes) rest ++ document_end t bytes ∷ []) r.below in
    parts ∙ go (drop index bytes) refl
  where
    go : (left : List ℕ) → drop index bytes ≡ left → find (is_at index) (flat_map (both bytes) (virtual_from t line column index (drop index bytes)) ++ document_end t bytes ∷ []) ≡ Some (point line column index 0)
    go [] e =
        rw (e, r.ends ∙ ap (λ bs. end_after (point line column index 0) (virtual_from t line column index bs)) e) (find_here index line column [])
    go (b ∷ left) e = rw e (find_first t some bytes line column index b left (document_end t bytes) e (b == 10) (b == 13) (begins_with_lf left) (b == 9) refl refl refl refl)

-- a place before bytes that end no line is reached at its own column
pub reached-of_point : (t : ℕ) → 0 < t → (bytes : List ℕ) (p : Point) (to : ℕ) → IsPointOf t bytes p → p.vs ≡ 0 → p.index < to → HasNoLineEnding bytes p.index to → IsReached t bytes p.line p.column p.index
reached-of_point t some bytes p to is whole forward other_byte = elim (place-of t some bytes p is) [
  | inl place ↦ let same : place.column ≡ p.column = omega (arith, place.across) in subst (λ c. IsReached t bytes p.line c p.index) same place.reached
  | inr cr ↦ absurd ((other_byte p.index (omega arith) forward).1 cr.2)
]
