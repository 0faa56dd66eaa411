-- Lemmas on lines: lists of indices that pass a test, how many are not above a number, and the greatest of these.
use Rattle.markdown_base.proofs.Prelude.{◌≡◌, ℕ, zero, suc, ◌+◌, ◌-◌, ◌<◌, ◌≤◌, ◌^◌, Bool, true, false, cond, leb, List, [], ◌∷◌, ◌++◌, length, take, drop, get_or, refl, sym, ap, ◌∙◌, arith, add-one, drop-cons, max, subst, leb-false, leb-true, le-leb, unary_clauses, filter, fold, take_while, Option, Some, slice_index, range_with_len, last_or, AllWithin, IsNonDecreasingBy, IsPartitionPoint, max-eq_right, map-id, get_or-range_with_len, length-range_with_len, get_or-take, length-take-le, filter_of_map_range_with_len_more, IsNonDecreasingBy-take, IsNonDecreasingBy-filter, is_line_start, IsKept, greatest, point_in}
use Rattle.std.proofs.lemmas.List.Sums.{take_while-cons}

-- the indices below the next one that pass a test
pub passing_more : (p : ℕ → Bool) (n : ℕ) → filter p (range_with_len 0 (n + 1)) ≡ filter p (range_with_len 0 n) ++ cond (p n) (n ∷ []) []
passing_more p n = simp map-id at (filter_of_map_range_with_len_more p (λ x. x) 0 n n (omega arith))

-- the step of that list at an index that passes, or does not
pub passing_next : (p : ℕ → Bool) (n : ℕ) (xs ys : List ℕ) (b : Bool) → xs ≡ filter p (range_with_len 0 n) → p n ≡ b → ys ≡ xs ++ cond b (n ∷ []) [] → ys ≡ filter p (range_with_len 0 (n + 1))
passing_next p n xs ys b old passes new = rw (passing_more p n, passes, ← old) new

-- what `Location::new` collects is what a `Location` keeps
pub lines_are_kept : (bytes : List ℕ) → length bytes + 1 < 2 ^ 64 → IsKept (length bytes) (filter (is_line_start bytes) (range_with_len 0 (length bytes + 1)))
lines_are_kept bytes fits =
    let P : ℕ → Type 0 = λ n. (0 < length (filter (is_line_start bytes) (range_with_len 0 n))) × (slice_index (filter (is_line_start bytes) (range_with_len 0 n)) 0 ≡ 0) in
    let first = subst P (sym (add-one (length bytes))) (omega arith, refl) in
    let ascends : IsNonDecreasingBy (λ x. x) (range_with_len 0 (length bytes + 1)) = λ i j d le lt.
    let below : j < length bytes + 1 = rw length-range_with_len at lt in
    omega (arith, get_or-range_with_len 0 (length bytes + 1) i d (omega arith), get_or-range_with_len 0 (length bytes + 1) j d below) in
    (fits, first.0, first.1, IsNonDecreasingBy-filter (λ x. x) (is_line_start bytes) (range_with_len 0 (length bytes + 1)) ascends)

none_passes : (p : ℕ → Bool) (xs : List ℕ) → AllWithin (λ y. p y ≡ false) xs 0 (length xs) → filter p xs ≡ []
none_passes p [] none = refl
none_passes p (x ∷ xs) none = rw (none 0 0 (omega arith) (omega arith)) (none_passes p xs (λ k d low high. none (suc k) d (omega arith) (omega arith)))

-- if all numbers before a position pass a test, and none from it on does, the numbers that pass are the ones before it
pub passing_are_leading : (p : ℕ → Bool) (xs : List ℕ) (k : ℕ) → k ≤ length xs → IsPartitionPoint (λ y. p y ≡ true) (λ y. p y ≡ false) xs k → filter p xs ≡ take k xs
passing_are_leading p xs zero within h = none_passes p xs h.1
passing_are_leading p [] (suc k) within h = refl
passing_are_leading p (x ∷ xs) (suc k) within h =
    rw (h.0 0 0 (omega arith) (omega arith))
    (ap (λ ys. x ∷ ys) (passing_are_leading p xs k (omega arith) ((λ i d low high. h.0 (suc i) d (omega arith) (omega arith)), (λ i d low high. h.1 (suc i) d (omega arith) (omega arith)))))

greatest_from_first : (a : ℕ) (xs : List ℕ) → IsNonDecreasingBy (λ x. x) (a ∷ xs) → fold max a xs ≡ get_or (a ∷ xs) (length xs) 0
greatest_from_first a [] ascend = refl
greatest_from_first a (x ∷ xs) ascend =
    let le : a ≤ x = ascend 0 1 0 (omega arith) (omega arith) in
    rw (max-eq_right le) (greatest_from_first x xs (λ i j d low high. ascend (suc i) (suc j) d (omega arith) (omega arith)))

from_zero-ascends : (xs : List ℕ) → IsNonDecreasingBy (λ x. x) xs → IsNonDecreasingBy (λ x. x) (0 ∷ xs)
from_zero-ascends xs ascend zero j d low high = omega arith
from_zero-ascends xs ascend (suc i) zero d low high = absurd (omega arith)
from_zero-ascends xs ascend (suc i) (suc j) d low high = ascend i j d (omega arith) (omega arith)

-- a leading part that begins at or before the offset is passed
pub leading_turn : (p : ℕ × ℕ → Bool) (stops : List (ℕ × ℕ)) (i : ℕ) (last : Option (ℕ × ℕ)) → i < length stops → p (get_or stops i (0, 0)) ≡ true
    → last_or last (take_while p (drop i stops)) ≡ last_or (Some (get_or stops i (0, 0))) (take_while p (drop (i + 1) stops))
leading_turn p stops i last within passes =
    let front : drop i stops ≡ get_or stops i (0, 0) ∷ drop (i + 1) stops = rw (add-one, drop-cons stops i (0, 0)) refl in
    rw (front, take_while-cons p (get_or stops i (0, 0)) (drop (i + 1) stops), passes) refl

-- an ascending list's place after the numbers that are not above an offset
abbrev pub Divides : ℕ → List ℕ → ℕ → Type 0
Divides offset = IsPartitionPoint (λ y. leb y offset ≡ true) (λ y. leb y offset ≡ false)

-- the first line starts at or before any offset
pub some_line : (end offset : ℕ) (starts : List ℕ) (k : ℕ) → IsKept end starts → Divides offset starts k → 1 ≤ k
some_line end offset starts zero kept h =
    absurd (omega (arith, kept.2, leb-false (get_or starts 0 0) offset (h.1 0 0 (omega arith) kept.1)))
some_line end offset starts (suc k) kept h = omega arith

-- the line before the place starts at or before the offset
pub starts_before : (offset : ℕ) (starts : List ℕ) (k : ℕ) → Divides offset starts (suc k) → get_or starts k 0 ≤ offset
starts_before offset starts k h = leb-true (get_or starts k 0) offset (h.0 k 0 (omega arith) (omega arith))

-- the point that `Location::to_point` returns
pub point_found : (end offset : ℕ) (starts : List ℕ) (line : ℕ) → IsKept end starts → offset ≤ end → line ≤ length starts → Divides offset starts line
    → Some (record { line = line; column = offset - get_or starts (line - 1) 0 + 1; offset = offset }) ≡ point_in (record { end = end; starts = starts }) offset
point_found end offset starts zero kept inside within h = absurd (omega (arith, some_line end offset starts zero kept h))
point_found end offset starts (suc k) kept inside within h =
    let front = take (suc k) starts in
    let long : length front ≡ suc k = length-take-le (suc k) starts within in
    let last : greatest front ≡ get_or starts k 0 =
    rw long at (greatest_from_first 0 front (from_zero-ascends front (IsNonDecreasingBy-take (λ x. x) (suc k) starts kept.3))) ∙ get_or-take (suc k) starts k 0 (omega arith) in
    rw (le-leb offset end inside, passing_are_leading (λ y. leb y offset) starts (suc k) within h, long, last) (simp unary_clauses)
