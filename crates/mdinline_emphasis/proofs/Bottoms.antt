-- Of the runs that wait before the place of a search of its kind that found nothing, none fits: this stays so.
use Rattle.mdinline_emphasis.proofs.Prelude.{◌≡◌, ◌≢◌, ℕ, zero, suc, ◌+◌, ◌-◌, ◌*◌, ◌==◌, ◌<◌, ◌≤◌, Bool, true, false, cond, List, [], ◌∷◌, ◌++◌, Option, Some, None, take, length, set, refl, sym, ap, ◌∙◌, arith, inl, inr, get_or-set_same, get_or-set_other, slice_get_within, slice_get-get_or, slice_get, slice_index, ◌&&◌, ◌||◌, not, nat_tests, Run, same, may_pair, opening, closing, last_of, may_pair_there, run_there, with_pair, with_pair_of, third, kind, AreBottoms, AreInOrder, NoneFitsBefore, cases_eq, is_tilde, style_of, Marker, marker_number}
use Rattle.mdinline_emphasis.proofs.Markers.{number-is}
use Rattle.mdinline_emphasis.proofs.Stands.{pushed-at}

-- ---- the kind of a run

third-one : (b : ℕ) → (b == 1) ≡ (third b == 1)
third-one b = grind (arith, nat_tests)

third-two : (b : ℕ) → (b == 2) ≡ (third b == 2)
third-two b = grind (arith, nat_tests)

third-most : (p q : Bool) → cond p 1 (cond q 2 0) ≤ 2
third-most true q = omega arith
third-most false true = omega arith
third-most false false = omega arith

parts : (a a' : ℕ) (b b' : Bool) (t t' : ℕ) → t ≤ 2 → t' ≤ 2 → (6 * a + cond b 3 0) + t ≡ (6 * a' + cond b' 3 0) + t' → (a ≡ a') × (b ≡ b') × (t ≡ t')
parts a a' true true t t' m m' e = (omega (arith, e, m, m'), refl, omega (arith, e, m, m'))
parts a a' false false t t' m m' e = (omega (arith, e, m, m'), refl, omega (arith, e, m, m'))
parts a a' true false t t' m m' e = absurd (omega (arith, e, m, m'))
parts a a' false true t t' m m' e = absurd (omega (arith, e, m, m'))

abbrev fits_by : Run → Marker → Bool → Bool → Bool → Bool
fits_by o marker opens one two =
    same o.marker marker
    && cond (is_tilde marker) (((o.rest == 1) && one) || ((o.rest == 2) && two)) (not (o.closes || opens) || not (((o.rest == 1) && two) || ((o.rest == 2) && one)))

fits-kind : (o r r' : Run) → kind r ≡ kind r' → may_pair o r ≡ may_pair o r'
fits-kind o r r' e =
    let p = parts (marker_number r.marker) (marker_number r'.marker) r.opens r'.opens (third r.rest) (third r'.rest) (third-most (r.rest == 1) (r.rest == 2)) (third-most (r'.rest == 1) (r'.rest == 2)) e in
    let marker : r.marker ≡ r'.marker = number-is r.marker r'.marker p.0 in
    let one : (r.rest == 1) ≡ (r'.rest == 1) = third-one r.rest ∙ ap (λ t. t == 1) p.2 ∙ sym (third-one r'.rest) in
    let two : (r.rest == 2) ≡ (r'.rest == 2) = third-two r.rest ∙ ap (λ t. t == 2) p.2 ∙ sym (third-two r'.rest) in
    ap (λ x. fits_by o x r.opens (r.rest == 1) (r.rest == 2)) marker ∙ ap (λ x. fits_by o r'.marker x (r.rest == 1) (r.rest == 2)) p.1
    ∙ ap (λ x. fits_by o r'.marker r'.opens x (r.rest == 2)) one ∙ ap (fits_by o r'.marker r'.opens (r'.rest == 1)) two

fits-there-kind : (o : Option Run) (r r' : Run) → kind r ≡ kind r' → may_pair_there o r ≡ may_pair_there o r'
fits-there-kind None r r' e = refl
fits-there-kind (Some o) r r' e = fits-kind o r r' e

-- ---- what a search says of each that waits

first-none : (b : Bool) (n : ℕ) (x : Option ℕ) → cond b (Some n) x ≡ None → (b ≡ false) × (x ≡ None)
first-none true n x e = absurd (cc)
first-none false n x e = (refl, e)

none-fits : (rs : List Run) (openers : List ℕ) (r : Run) (n : ℕ) → last_of rs openers r n ≡ None → (k : ℕ) → k < n → may_pair_there (run_there rs (slice_get openers k)) r ≡ false
none-fits rs openers r zero e k lt = absurd (omega (arith, lt))
none-fits rs openers r (suc n) e k lt =
    let here = first-none (may_pair_there (run_there rs (slice_get openers n)) r) n (last_of rs openers r n) e in
    elim (cases_eq k n) [
      | inl same ↦ ap (λ i. may_pair_there (run_there rs (slice_get openers i)) r) same ∙ here.0
      | inr other ↦ none-fits rs openers r n here.1 k (omega (arith, lt, other))
    ]

none-found : (rs : List Run) (openers : List ℕ) (r : Run) (n : ℕ) → ((k : ℕ) → k < n → may_pair_there (run_there rs (slice_get openers k)) r ≡ false) → last_of rs openers r n ≡ None
none-found rs openers r zero h = refl
none-found rs openers r (suc n) h =
    ap (λ b. cond b (Some n) (last_of rs openers r n)) (h n (omega arith)) ∙ none-found rs openers r n (λ k lt. h k (omega (arith, lt)))

-- where the next one to look at stands before the bottom, all others do
pub none-before : (rs : List Run) (openers : List ℕ) (r : Run) (bottom at : ℕ) → 0 < at → at - 1 < length openers → slice_index openers (at - 1) < bottom → AreInOrder openers → NoneFitsBefore bottom rs openers r
    → last_of rs openers r at ≡ None
none-before rs openers r bottom at pos inside low order none = none-found rs openers r at (λ k lt. there k lt (slice_get openers k) refl)
  where
    there : (k : ℕ) → k < at → (x : Option ℕ) → slice_get openers k ≡ x → may_pair_there (run_there rs (slice_get openers k)) r ≡ false
    there k lt None e = ap (λ y. may_pair_there (run_there rs y) r) e
    there k lt (Some i) e =
        let last : i ≤ slice_index openers (at - 1) = order k (at - 1) i (slice_index openers (at - 1)) (omega (arith, lt)) e (slice_get-get_or openers (at - 1) 0 inside) in
        ap (λ y. may_pair_there (run_there rs y) r) e ∙ none k i e (omega (arith, last, low))

-- ---- reads of changed lists

slice_get-set_other : {X : Type 0} → (xs : List X) (j m : ℕ) (v : X) → m ≢ j → slice_get (set xs j v) m ≡ slice_get xs m
slice_get-set_other [] j m v h = refl
slice_get-set_other (x ∷ xs) zero zero v h = absurd (h refl)
slice_get-set_other (x ∷ xs) zero (suc m) v h = refl
slice_get-set_other (x ∷ xs) (suc j) zero v h = refl
slice_get-set_other (x ∷ xs) (suc j) (suc m) v h = slice_get-set_other xs j m v (λ e. h (ap suc e))

slice_get-set_same : {X : Type 0} → (xs : List X) (i : ℕ) (v : X) → i < length xs → slice_get (set xs i v) i ≡ Some v
slice_get-set_same [] i v h = absurd (omega (arith, h))
slice_get-set_same (x ∷ xs) zero v h = refl
slice_get-set_same (x ∷ xs) (suc i) v h = slice_get-set_same xs i v (omega (arith, h))

pub taken-at : (n : ℕ) (xs : List ℕ) (k m : ℕ) → slice_get (take n xs) k ≡ Some m → slice_get xs k ≡ Some m
taken-at zero [] k m e = e
taken-at zero (x ∷ xs) k m e = absurd (cc)
taken-at (suc n) [] k m e = e
taken-at (suc n) (x ∷ xs) zero m e = e
taken-at (suc n) (x ∷ xs) (suc k) m e = taken-at n xs k m e

-- ---- after a pair

module _ (rs : List Run) (i j : ℕ) (o c : Run) (at : slice_get rs i ≡ Some o) (next : slice_get rs j ≡ Some c) where
  made : with_pair rs i j ≡ set (set rs i (opening (style_of o c) o)) j (closing (style_of o c) c)
  made = ap (λ x. with_pair_of rs i j x (slice_get rs j)) at ∙ ap (with_pair_of rs i j (Some o)) next

  fits-after : (r : Run) (m : ℕ) → m < j → may_pair_there (slice_get (with_pair rs i j) m) r ≡ may_pair_there (slice_get rs m) r
  fits-after r m before =
      let o' = opening (style_of o c) o in
      let one : slice_get (with_pair rs i j) m ≡ slice_get (set rs i o') m =
      ap (λ xs. slice_get xs m) made ∙ slice_get-set_other (set rs i o') j m (closing (style_of o c) c) (λ e. absurd (omega (arith, before, e))) in
      ap (λ x. may_pair_there x r) one ∙ elim (cases_eq m i) [
        | inl same ↦
            ap (λ k. may_pair_there (slice_get (set rs i o') k) r) same ∙ ap (λ x. may_pair_there x r) (slice_get-set_same rs i o' (slice_get_within rs i o at))
            ∙ ap (λ x. may_pair_there x r) (sym at) ∙ ap (λ k. may_pair_there (slice_get rs k) r) (sym same)
        | inr other ↦ ap (λ x. may_pair_there x r) (slice_get-set_other rs i m o' other)
      ]

  pub bottoms-after-pair : (openers : List ℕ) (height : ℕ) (bottoms : List ℕ) → ((k m : ℕ) → slice_get openers k ≡ Some m → m < j) → AreBottoms rs openers j bottoms
      → AreBottoms (with_pair rs i j) (take height openers) j bottoms
  bottoms-after-pair openers height bottoms below h r =
      ((h r).0, λ k m e before. let was = taken-at height openers k m e in fits-after r m (below k m was) ∙ (h r).1 k m was before)

-- ---- after a search that found nothing, and after a push

pub bottoms-after-search : (rs : List Run) (openers bottoms : List ℕ) (c : Run) (j : ℕ) → kind c < length bottoms → last_of rs openers c (length openers) ≡ None → AreBottoms rs openers j bottoms
    → AreBottoms rs openers j (set bottoms (kind c) j)
bottoms-after-search rs openers bottoms c j inside none h r = elim (cases_eq (kind r) (kind c)) [
  | inl same ↦
      let is : slice_index (set bottoms (kind c) j) (kind r) ≡ j = ap (slice_index (set bottoms (kind c) j)) same ∙ get_or-set_same bottoms (kind c) j 0 inside in (
        omega (arith, is),
        λ k m e before. fits-there-kind (slice_get rs m) r c same ∙ ap (λ x. may_pair_there (run_there rs x) c) (sym e) ∙ none-fits rs openers c (length openers) none k (slice_get_within openers k m e),
      )
  | inr other ↦
      let is : slice_index (set bottoms (kind c) j) (kind r) ≡ slice_index bottoms (kind r) = get_or-set_other bottoms (kind c) (kind r) j 0 other in
      (omega (arith, is, (h r).0), λ k m e before. (h r).1 k m e (omega (arith, before, is)))
]

pub bottoms-after-push : (rs : List Run) (openers bottoms : List ℕ) (j : ℕ) → AreBottoms rs openers j bottoms → AreBottoms rs (openers ++ j ∷ []) j bottoms
bottoms-after-push rs openers bottoms j h r = (
  (h r).0,
  λ k m e before. elim (pushed-at openers j k m e) [
    | inl was ↦ (h r).1 k m was before
    | inr last ↦ let low = (h r).0 in let same = last.0 in absurd (omega (arith, before, low, same))
  ],
)

-- one run more was read
pub bottoms-later : (rs : List Run) (openers bottoms : List ℕ) (j : ℕ) → AreBottoms rs openers j bottoms → AreBottoms rs openers (j + 1) bottoms
bottoms-later rs openers bottoms j h r = let low = (h r).0 in (omega (arith, low), (h r).1)

pub bottoms-at-first : (rs : List Run) (openers bottoms : List ℕ) → ((k : ℕ) → slice_index bottoms k ≡ 0) → AreBottoms rs openers 0 bottoms
bottoms-at-first rs openers bottoms zeros r = let none = zeros (kind r) in (omega (arith, none), λ k m e before. absurd (omega (arith, before, none)))
