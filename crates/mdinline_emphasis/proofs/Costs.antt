-- What the loops that pair runs cost: what is to be paid pays for it.
use Rattle.mdinline_emphasis.proofs.Prelude.{◌≡◌, ℕ, zero, suc, ◌+◌, ◌-◌, ◌<◌, ◌≤◌, Bool, true, false, cond, List, [], ◌∷◌, ◌++◌, Some, length, set, take, drop, refl, ap, ◌∙◌, arith, nat_lt, slice_get, slice_index, drop_more, Run, opening, closing, with_pair, with_pair_of, markers_left, above, waiting_from, same_Some, style_of}
use Rattle.std.proofs.lemmas.Bool.{le-ltb, lt-ltb}
use Rattle.mdinline_emphasis.proofs.Steps.{fewer}

-- ---- the markers that are left

set-left : (rs : List Run) (i : ℕ) (o o' : Run) → slice_get rs i ≡ Some o → markers_left (set rs i o') + o.left ≡ markers_left rs + o'.left
set-left [] i o o' e = absurd (cc)
set-left (r ∷ rs) zero o o' e =
    let same : r ≡ o = same_Some r o e in
    let left = ap (λ x. x.left) same in
    omega (arith, left)
set-left (r ∷ rs) (suc i) o o' e = let more = set-left rs i o o' e in omega (arith, more)

set-other : (rs : List Run) (i m : ℕ) (v : Run) → i < m → slice_get (set rs i v) m ≡ slice_get rs m
set-other [] i m v h = refl
set-other (x ∷ xs) i zero v h = absurd (omega (arith, h))
set-other (x ∷ xs) zero (suc m) v h = refl
set-other (x ∷ xs) (suc i) (suc m) v h = set-other xs i m v (omega (arith, h))

-- a pair takes one marker or more of those that are left
pub pair-takes : (rs : List Run) (i j : ℕ) (o c : Run) → slice_get rs i ≡ Some o → slice_get rs j ≡ Some c → i < j → 0 < c.left → markers_left (with_pair rs i j) < markers_left rs
pair-takes rs i j o c at next before some =
    let s = style_of o c in
    let made : with_pair rs i j ≡ set (set rs i (opening s o)) j (closing s c) = ap (λ x. with_pair_of rs i j x (slice_get rs j)) at ∙ ap (with_pair_of rs i j (Some o)) next in
    let one = set-left rs i o (opening s o) at in
    let two = set-left (set rs i (opening s o)) j c (closing s c) (set-other rs i j (opening s o) before ∙ next) in
    let less = fewer s c.left some in
    let same = ap markers_left made in
    let opened : (opening s o).left ≤ o.left = omega arith in
    omega (arith, one, two, less, same, opened)

-- ---- the places

waiting-none : (place : ℕ) (openers : List ℕ) → ((k m : ℕ) → slice_get openers k ≡ Some m → m < place) → waiting_from place openers ≡ 0
waiting-none place [] h = refl
waiting-none place (i ∷ is) h =
    let more = waiting-none place is (λ k m e. h (suc k) m e) in
    let first = ap {B = ℕ} (λ b. cond b 0 1) (lt-ltb i place (h 0 i refl)) in
    omega (arith, more, first)

waiting-take : (place n : ℕ) (openers : List ℕ) → waiting_from place (take n openers) ≤ waiting_from place openers
waiting-take place zero [] = omega arith
waiting-take place zero (i ∷ is) = omega arith
waiting-take place (suc n) [] = omega arith
waiting-take place (suc n) (i ∷ is) = let more = waiting-take place n is in omega (arith, more)

waiting-drop : (place n : ℕ) (openers : List ℕ) → waiting_from place (drop n openers) ≤ waiting_from place openers
waiting-drop place zero [] = omega arith
waiting-drop place zero (i ∷ is) = omega arith
waiting-drop place (suc n) [] = omega arith
waiting-drop place (suc n) (i ∷ is) = let more = waiting-drop place n is in omega (arith, more)

one-most : (b : Bool) → cond b 0 1 ≤ 1
one-most true = omega arith
one-most false = omega arith

waiting-more : (place j : ℕ) (openers : List ℕ) → waiting_from place (openers ++ j ∷ []) ≤ waiting_from place openers + 1
waiting-more place j [] = let one = one-most (nat_lt j place) in omega (arith, one)
waiting-more place j (i ∷ is) = let more = waiting-more place j is in omega (arith, more)

-- one look more, at one that is not before the place
pub waiting-step : (place at : ℕ) (openers : List ℕ) → 0 < at → at - 1 < length openers → place ≤ slice_index openers (at - 1) → waiting_from place (drop (at - 1) openers) ≡ suc (waiting_from place (drop at openers))
waiting-step place at openers pos inside high =
    let same : at - 1 + 1 ≡ at = omega (arith, pos) in
    let here = ap (waiting_from place) (drop_more openers (at - 1) 0 inside ∙ ap (λ n. slice_index openers (at - 1) ∷ drop n openers) same) in
    let first = ap {B = ℕ} (λ b. cond b 0 1) (le-ltb (slice_index openers (at - 1)) place high) in
    omega (arith, here, first)

-- all looks of a search that found nothing
pub looks-all : (place at : ℕ) (openers : List ℕ) (t0 t1 : ℕ) → t1 + at ≡ t0 + length openers → length openers ≤ at + waiting_from place (drop at openers) → t1 ≤ t0 + waiting_from place openers
looks-all place at openers t0 t1 so_far h = let few = waiting-drop place at openers in omega (arith, so_far, h, few)

-- a search in vain leaves none from its place on
pub above-set : (openers bottoms : List ℕ) (k place : ℕ) → k < length bottoms → ((i m : ℕ) → slice_get openers i ≡ Some m → m < place)
    → above openers (set bottoms k place) + waiting_from (slice_index bottoms k) openers ≡ above openers bottoms
above-set openers [] k place lt h = absurd (omega (arith, lt))
above-set openers (b ∷ bs) zero place lt h = let none = waiting-none place openers h in omega (arith, none)
above-set openers (b ∷ bs) (suc k) place lt h = let more = above-set openers bs k place (omega (arith, lt)) h in omega (arith, more)

-- after a pair fewer wait
pub above-fewer : (n : ℕ) (openers bottoms : List ℕ) → above (take n openers) bottoms ≤ above openers bottoms
above-fewer n openers [] = omega arith
above-fewer n openers (b ∷ bs) = let more = above-fewer n openers bs in let here = waiting-take b n openers in omega (arith, more, here)

-- one more waits
pub above-more : (openers : List ℕ) (j : ℕ) (bottoms : List ℕ) → above (openers ++ j ∷ []) bottoms ≤ above openers bottoms + length bottoms
above-more openers j [] = omega arith
above-more openers j (b ∷ bs) = let more = above-more openers j bs in let here = waiting-more b j openers in omega (arith, more, here)

-- nothing waits
pub above-none : (bottoms : List ℕ) → above [] bottoms ≡ 0
above-none [] = refl
above-none (b ∷ bs) = let more = above-none bs in omega (arith, more)
