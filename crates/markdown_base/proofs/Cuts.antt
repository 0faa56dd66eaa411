-- Lemmas on tabs that a place cuts: how many of their virtual bytes lie between two places.
use Rattle.markdown_base.proofs.Prelude.{◌≡◌, ◌≢◌, ℕ, zero, suc, ◌+◌, ◌-◌, ◌*◌, ◌/◌, ◌%◌, ◌<◌, ◌≤◌, ◌⊎◌, inl, inr, min, max, Bool, true, false, List, [], ◌∷◌, ◌++◌, length, drop, get_or, refl, sym, ap, ◌∙◌, arith, subst, lt-ltb, eq-eqb, ne_eqb, le-ltb, ◌==◌, ◌&&◌, not, nat_lt, nat_le, filter, AllByRecursion, and-false, mod-mul-add, div-add-mod', filter-append, append-nil, Point, Seat, point, tab_width, end_in_tab, in_tab, begins_with_lf, virtual_from, virtual, stands_before, in_range, IsPointOf, spaces_between, spaces_before, spaces_after, first_byte, nat_tests}
use Rattle.markdown_base.proofs.Common.{every-append, every-map, filter-none}
use Rattle.markdown_base.proofs.Scans.{IsReached, IsSeatPlace, IsOfTab, of_tab, place-of, byte_here}

-- whether the virtual byte of this number lies in a range
abbrev pub is_within : (low high : ℕ) → Seat → Bool
is_within low high s = nat_le low s.point.vs && nat_lt s.point.vs high

-- how many virtual bytes of a tab lie in a range
count_in_tab : (f : Seat → Bool) (low high width line index : ℕ) → ((s : Seat) → s.point.index ≡ index → s.point.vs < width → f s ≡ is_within low high s)
    → (byte n vs column : ℕ) → vs + n ≤ width → length (filter f (in_tab byte n line column index vs)) ≡ min high (vs + n) - max low vs
count_in_tab f low high width line index h byte zero vs column le = omega arith
count_in_tab f low high width line index h byte (suc n) vs column le =
    let here = h (record { byte = byte; point = point line column index vs; end = end_in_tab n line column index vs }) refl (omega arith) in
    let rest = count_in_tab f low high width line index h 32 n (suc vs) (suc column) (omega arith) in
    grind (arith, nat_tests)

-- the virtual bytes from an index on have no lower index
module _ (t line column index b : ℕ) (rest : List ℕ) (next : (line' column' : ℕ) → AllByRecursion (λ s. suc index ≤ s.point.index) (virtual_from t line' column' (suc index) rest)) where
  later : (line' column' : ℕ) → AllByRecursion (λ s. index ≤ s.point.index) (virtual_from t line' column' (suc index) rest)
  later line' column' = every-map (λ s. suc index ≤ s.point.index) (λ s. index ≤ s.point.index) (λ s h. omega arith) (virtual_from t line' column' (suc index) rest) (next line' column')

  from-more : (w x y z : Bool) → (b == 10) ≡ w → (b == 13) ≡ x → begins_with_lf rest ≡ y → (b == 9) ≡ z → AllByRecursion (λ s. index ≤ s.point.index) (virtual_from t line column index (b ∷ rest))
  from-more true x y z ew ex ey ez = rw ew ((omega arith), later (suc line) 1)
  from-more false true true z ew ex ey ez = rw (ew, ex, ey) (later line column)
  from-more false true false z ew ex ey ez = rw (ew, ex, ey) ((omega arith), later (suc line) 1)
  from-more false false y true ew ex ey ez =
      rw (ew, ex, ez) (every-append (λ s. index ≤ s.point.index) (in_tab 9 (tab_width t column) line column index 0) (virtual_from t line (column + tab_width t column) (suc index) rest)
      (every-map (IsOfTab line column index (tab_width t column)) (λ s. index ≤ s.point.index) (λ s h. omega (arith, ap (λ p. p.index) h.2)) (in_tab 9 (tab_width t column) line column index 0) (of_tab line column index (tab_width t column)))
      (later line (column + tab_width t column)))
  from-more false false y false ew ex ey ez = rw (ew, ex, ez) ((omega arith), later line (suc column))

from-index : (t line column index : ℕ) (rest : List ℕ) → AllByRecursion (λ s. index ≤ s.point.index) (virtual_from t line column index rest)
from-index t line column index [] = tt
from-index t line column index (b ∷ rest) =
    from-more t line column index b rest (λ line' column'. from-index t line' column' (suc index) rest) (b == 10) (b == 13) (begins_with_lf rest) (b == 9) refl refl refl refl

-- the virtual bytes at the index of a tab are the tab's
tab_alone : (t : ℕ) (bytes : List ℕ) (line column index : ℕ) → IsReached t bytes line column index → index < length bytes → get_or bytes index 0 ≡ 9
    → (f : Seat → Bool) → ((s : Seat) → s.point.index ≢ index → f s ≡ false) → filter f (virtual t bytes) ≡ filter f (in_tab 9 (tab_width t column) line column index 0)
tab_alone t bytes line column index r within is f other =
    let seats = in_tab 9 (tab_width t column) line column index 0 in
    let after = virtual_from t line (column + tab_width t column) (suc index) (drop (suc index) bytes) in
    let here : virtual_from t line column index (drop index bytes) ≡ seats ++ after = rw (byte_here t bytes line column index r within, is) (refl {a = seats ++ after}) in
    let before_none = filter-none f r.front (every-map (λ s. s.point.index < index) (λ s. f s ≡ false) (λ s h. other s (λ e. omega arith)) r.front r.below) in
    let after_none = filter-none f after (every-map (λ s. suc index ≤ s.point.index) (λ s. f s ≡ false) (λ s h. other s (λ e. omega arith)) after (from-index t line (column + tab_width t column) (suc index) (drop (suc index) bytes))) in
    ap (λ xs. filter f xs) r.whole ∙ filter-append f r.front (virtual_from t line column index (drop index bytes))
    ∙ ap (λ xs. xs ++ filter f (virtual_from t line column index (drop index bytes))) before_none
    ∙ ap (λ xs. filter f xs) here ∙ filter-append f seats after ∙ ap (λ xs. filter f seats ++ xs) after_none ∙ append-nil (filter f seats)

-- how many of a tab's virtual bytes that pass a test have a number in a range
tab_count : (t : ℕ) (bytes : List ℕ) (line column index : ℕ) → IsReached t bytes line column index → index < length bytes → get_or bytes index 0 ≡ 9
    → (low high : ℕ) (h : Seat → Bool) → ((s : Seat) → s.point.index ≡ index → s.point.vs < tab_width t column → h s ≡ is_within low high s)
    → length (filter (λ s. (s.point.index == index) && h s) (virtual t bytes)) ≡ min high (tab_width t column) - low
tab_count t bytes line column index r within is low high h same =
    let alone = tab_alone t bytes line column index r within is (λ s. (s.point.index == index) && h s) (λ s ne. rw (ne_eqb s.point.index index ne) refl) in
    let count = count_in_tab (λ s. (s.point.index == index) && h s) low high (tab_width t column) line index (λ s e lt. rw (eq-eqb s.point.index index e) (same s e lt)) 9 (tab_width t column) 0 column (omega arith) in
    ap (λ xs. length xs) alone ∙ count ∙ (omega arith)

-- not before a place inside a tab, which is behind the tab byte
behind_cut : (low vs : ℕ) (r : Bool) → 0 < low → (nat_lt 0 vs && (not (nat_lt vs low) && r)) ≡ (nat_le low vs && r)
behind_cut low vs r some = grind (arith, nat_tests)

-- of two places at one index
before_here : (s p : Point) → s.index ≡ p.index → stands_before s p ≡ nat_lt s.vs p.vs
before_here s p e = rw (le-ltb s.index p.index (omega arith), eq-eqb s.index p.index e) refl

-- the first byte from a place on, and that from a later place on
pub first_ordered : (p q : Point) → stands_before q p ≡ false → first_byte p ≤ first_byte q
first_ordered p q ordered = grind (arith, nat_tests)

-- the place of a virtual byte that is no tab byte
pub cut_place : (t : ℕ) → 0 < t → (bytes : List ℕ) (p : Point) → IsPointOf t bytes p → 0 < p.vs → IsSeatPlace t bytes p
cut_place t some bytes p is cut = elim (place-of t some bytes p is) [ inl place ↦ place | inr h ↦ absurd (omega (arith, h.0)) ]

-- the index of a place, and of the first byte from it on
pub place_inside : (t : ℕ) → 0 < t → (bytes : List ℕ) (p : Point) → IsPointOf t bytes p → (p.index ≤ length bytes) × (first_byte p ≤ length bytes)
place_inside t some bytes p is = elim (place-of t some bytes p is) [ inl place ↦ (place.reached.inside, whole place.reached.inside (λ cut. (place.in_tab cut).0)) | inr h ↦ (omega (arith, h.1), whole (omega (arith, h.1)) (λ cut. h.1)) ]
  where
    whole : p.index ≤ length bytes → (0 < p.vs → p.index < length bytes) → first_byte p ≤ length bytes
    whole le lt = grind (arith, nat_tests)

-- of a tab that two places cut, the virtual bytes between these lie before the slice's bytes
pub spaces-in_one_tab : (t : ℕ) → 0 < t → (bytes : List ℕ) (p q : Point) → IsPointOf t bytes q → 0 < p.vs → p.index ≡ q.index → p.vs ≤ q.vs → spaces_before t bytes p q ≡ q.vs - p.vs
spaces-in_one_tab t some bytes p q is cut same le =
    let place = cut_place t some bytes q is (omega arith) in
    let tab = place.in_tab (omega arith) in
    let count = tab_count t bytes q.line place.column q.index place.reached tab.0 tab.1 p.vs q.vs (λ s. nat_lt 0 s.point.vs && in_range p q s)
    (λ s e lt. rw (before_here s.point p (e ∙ sym same), before_here s.point q e) (behind_cut p.vs s.point.vs (nat_lt s.point.vs q.vs) cut)) in
    let P : ℕ → Type 0 = λ i. spaces_between t bytes i p q ≡ q.vs - p.vs in
    rw (lt-ltb 0 p.vs cut) (subst P (sym same) (count ∙ (omega (arith, tab.2))))

-- of a tab that only the start cuts
pub spaces-behind_start : (t : ℕ) → 0 < t → (bytes : List ℕ) (p q : Point) → IsPointOf t bytes p → 0 < p.vs → p.index < q.index → spaces_before t bytes p q ≡ tab_width t p.column
spaces-behind_start t some bytes p q is cut later =
    let place = cut_place t some bytes p is cut in
    let tab = place.in_tab cut in
    let count = tab_count t bytes p.line place.column p.index place.reached tab.0 tab.1 p.vs (tab_width t place.column) (λ s. nat_lt 0 s.point.vs && in_range p q s)
    (λ s e lt. rw (before_here s.point p e, lt-ltb s.point.index q.index (omega arith), lt-ltb s.point.vs (tab_width t place.column) lt) (behind_cut p.vs s.point.vs true cut)) in
    let before = place.column - 1 in
    let split : place.column + p.vs - 1 ≡ before / t * t + (before % t + p.vs) = omega (arith, div-add-mod' before t, place.reached.first) in
    let left : (place.column + p.vs - 1) % t ≡ before % t + p.vs = ap (λ n. n % t) split ∙ mod-mul-add (before / t) t (before % t + p.vs) (omega (arith, tab.2)) in
    let rest : min (tab_width t place.column) (tab_width t place.column) - p.vs ≡ tab_width t (place.column + p.vs) = omega (arith, left, tab.2) in
    rw (lt-ltb 0 p.vs cut) (count ∙ rest ∙ ap (λ c. tab_width t c) (sym place.across))

-- of a tab that only the end cuts
pub spaces-before_end : (t : ℕ) → 0 < t → (bytes : List ℕ) (p q : Point) → IsPointOf t bytes q → 0 < q.vs → (p.index < q.index) ⊎ ((p.index ≡ q.index) × (p.vs ≡ 0)) → spaces_between t bytes q.index p q ≡ q.vs - 1
spaces-before_end t some bytes p q is cut where_p =
    let place = cut_place t some bytes q is cut in
    let tab = place.in_tab cut in
    let count = tab_count t bytes q.line place.column q.index place.reached tab.0 tab.1 1 q.vs (λ s. nat_lt 0 s.point.vs && in_range p q s)
    (λ s e lt. rw (starts_before s.point e, before_here s.point q e) refl) in
    count ∙ (omega (arith, tab.2))
  where
    starts_before : (s : Point) → s.index ≡ q.index → stands_before s p ≡ false
    starts_before s e = elim where_p [
      | inl lt ↦ rw (le-ltb s.index p.index (omega arith), ne_eqb s.index p.index (λ same. omega arith)) refl
      | inr h ↦ before_here s p (e ∙ sym h.0) ∙ le-ltb s.vs p.vs (omega (arith, h.1))
    ]

-- the start of a range is at a lower index than its end, or in the same byte and not after it
pub at_lower_index : (p q : Point) → stands_before q p ≡ false → p.index ≢ q.index → p.index < q.index
at_lower_index p q ordered other = grind (arith, nat_tests)

pub not_behind : (p q : Point) → stands_before q p ≡ false → p.index ≡ q.index → p.vs ≤ q.vs
not_behind p q ordered same = grind (arith, nat_tests)

-- the tab that the end cuts is not cut by the start
pub spaces-after_is : (t : ℕ) → 0 < t → (bytes : List ℕ) (p q : Point) → IsPointOf t bytes q → stands_before q p ≡ false → 0 < q.vs → (p.vs ≡ 0) ⊎ (p.index ≢ q.index) → spaces_after t bytes p q ≡ q.vs - 1
spaces-after_is t some bytes p q is ordered cut (inl whole) =
    let start : (p.index < q.index) ⊎ ((p.index ≡ q.index) × (p.vs ≡ 0)) = grind (arith, nat_tests) in
    rw (lt-ltb 0 q.vs cut, le-ltb 0 p.vs (omega arith)) (spaces-before_end t some bytes p q is cut start)
spaces-after_is t some bytes p q is ordered cut (inr other) =
    rw (lt-ltb 0 q.vs cut, ne_eqb p.index q.index other, and-false (nat_lt 0 p.vs)) (spaces-before_end t some bytes p q is cut (inl (at_lower_index p q ordered other)))
