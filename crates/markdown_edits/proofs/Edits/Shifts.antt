-- The table of shifts: what it says of a place, and how it is searched.
use Rattle.markdown_edits.proofs.Prelude.{◌≡◌, ℕ, zero, suc, ◌+◌, ◌-◌, ◌<◌, ◌≤◌, ◌^◌, true, cond, ltb, List, [], ◌∷◌, length, get_or, Option, Some, None, refl, ap, subst, arith, IsNonDecreasingBy, lt-ltb, Link, EachEnd, Edit, AreDisjoint, added_by, shifts, place_by, AreShifts, place_from, Shift, nat_tests}
use Rattle.std.proofs.Common.{IfSome}
use Rattle.std.proofs.lemmas.Option.{IfSome_then}

-- the table gives the places that the edits give
pub place_by-shifts : (es : List Edit) (removed added n : ℕ) → place_by (shifts removed added es) removed added n ≡ place_from es removed added n
place_by-shifts [] removed added n = refl
place_by-shifts (e ∷ es) removed added n =
    ap (λ (o : Option ℕ). cond (ltb n e.index) (Some (n - removed + added)) (cond (ltb n (e.index + e.remove)) None o)) (place_by-shifts es (removed + e.remove) (added + length e.additions) n)

-- disjoint edits have such a table
pub AreShifts-shifts : (es : List Edit) (from removed added n : ℕ) → AreDisjoint from es n → removed ≤ from → n + added + added_by es < 2 ^ 64 → AreShifts n from (shifts removed added es)
AreShifts-shifts [] from removed added n d r f = tt
AreShifts-shifts (e ∷ es) from removed added n d r f =
    (d.0, (omega arith), (omega arith), (omega arith), AreShifts-shifts es (e.index + e.remove) (removed + e.remove) (added + length e.additions) n d.1 (omega arith) (omega arith))

-- a smaller index is not moved too far either
pub AreShifts-le : (ss : List Shift) (m n from : ℕ) → m ≤ n → AreShifts n from ss → AreShifts m from ss
AreShifts-le [] m n from l h = tt
AreShifts-le (s ∷ ss) m n from l h = let a : n + s.added < 2 ^ 64 = h.3 in (h.0, h.1, h.2, (omega arith), AreShifts-le ss m n s.end l h.4)

-- nor is a link end that is one
pub link_fits : (ss : List Shift) (n : ℕ) (o : Option Link) → AreShifts n 0 ss → IfSome o (EachEnd (λ k. k < n)) → IfSome o (EachEnd (λ k. AreShifts k 0 ss))
link_fits ss n o h l =
    let fits = λ (k : ℕ) (below : k < n). AreShifts-le ss k n 0 (omega arith) h in
    IfSome_then o l (λ link ends. (IfSome_then link.previous ends.0 fits, IfSome_then link.next ends.1 fits))

-- the indices of a table ascend
above : (ss : List Shift) (n from i : ℕ) (d : Shift) → AreShifts n from ss → i < length ss → from ≤ (get_or ss i d).index
above [] n from i d h l = absurd (omega arith)
above (s ∷ ss) n from zero d h l = h.0
above (s ∷ ss) n from (suc i) d h l = let a : from ≤ s.index = h.0 in let b : s.index ≤ s.end = h.1 in omega (arith, above ss n s.end i d h.4 (omega arith))

pub IsNonDecreasingBy-shifts : (ss : List Shift) (n from : ℕ) → AreShifts n from ss → IsNonDecreasingBy (λ s. s.index) ss
IsNonDecreasingBy-shifts [] n from h i j d l m = absurd (omega arith)
IsNonDecreasingBy-shifts (s ∷ ss) n from h zero zero d l m = omega arith
IsNonDecreasingBy-shifts (s ∷ ss) n from h zero (suc j) d l m = let b : s.index ≤ s.end = h.1 in omega (arith, above ss n s.end j d h.4 (omega arith))
IsNonDecreasingBy-shifts (s ∷ ss) n from h (suc i) zero d l m = absurd (omega arith)
IsNonDecreasingBy-shifts (s ∷ ss) n from h (suc i) (suc j) d l m = IsNonDecreasingBy-shifts ss n s.end h.4 i j d (omega arith) (omega arith)

-- a place in front of the whole table
pub place_by-front : (ss : List Shift) (removed added n : ℕ) → ((d : Shift) → 0 < length ss → n < (get_or ss 0 d).index) → place_by ss removed added n ≡ Some (n - removed + added)
place_by-front [] removed added n h = refl
place_by-front (s ∷ ss) removed added n h = let e : ltb n s.index ≡ true = lt-ltb n s.index (h s (omega arith)) in rw e refl

-- what the row at k says of a place: k is the last that begins at or before it
abbrev pub place_at : Shift → ℕ → Option ℕ
place_at s n = cond (ltb n s.end) None (Some (n - s.removed + s.added))

pub place_by-row : (ss : List Shift) (k removed added n from : ℕ) (s : Shift) → AreShifts n from ss → k < length ss → s ≡ get_or ss k s → s.index ≤ n → ((d : Shift) → k + 1 < length ss → n < (get_or ss (k + 1) d).index) → place_by ss removed added n ≡ place_at s n
place_by-row [] k removed added n from s h l g a b = absurd (omega arith)
place_by-row (r ∷ ss) zero removed added n from s h l g a b =
    let front = place_by-front ss r.removed r.added n (λ d m. b d (omega arith)) in
    grind (arith, nat_tests)
place_by-row (r ∷ ss) (suc k) removed added n from s h l g a b =
    let c : r.index ≤ r.end = h.1 in
    let e : r.end ≤ s.index = omega (arith, above ss n r.end k s h.4 (omega arith), ap (λ (x : Shift). x.index) g) in
    let z : suc k + 1 ≡ suc (k + 1) = omega arith in
    let rest = place_by-row ss k r.removed r.added n r.end s h.4 (omega arith) g a (λ d m. subst (λ (q : ℕ). n < (get_or (r ∷ ss) q d).index) z (b d (omega arith))) in
    grind (arith, nat_tests)

-- a row's sums fit
pub row_fits : (ss : List Shift) (k n from : ℕ) (s : Shift) → AreShifts n from ss → k < length ss → s ≡ get_or ss k s → (s.removed ≤ s.end) × (n + s.added < 2 ^ 64)
row_fits [] k n from s h l g = absurd (omega arith)
row_fits (r ∷ ss) zero n from s h l g = rw g (h.2, h.3)
row_fits (r ∷ ss) (suc k) n from s h l g = row_fits ss k n r.end s h.4 (omega arith) g
