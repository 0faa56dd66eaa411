-- A search by halves among sorted ranges.
use Rattle.mdinline_emphasis.proofs.Prelude.{◌≡◌, ℕ, zero, suc, ◌+◌, ◌<◌, ◌≤◌, true, false, List, [], ◌∷◌, length, take, drop, get_or, refl, arith, ◌&&◌, ◌||◌, nat_le, and_parts, and_from, and_left, and_right, leb-true, le-leb, lt-leb, in_ranges, are_sorted, or_from, or_left, or_right}

-- the first range is sorted in, and so are the others behind it
module _ (from : ℕ) (r : ℕ × ℕ) (rs : List (ℕ × ℕ)) (sorted : are_sorted from (r ∷ rs) ≡ true) where
  parts : ((nat_le from r.0 && nat_le r.0 r.1) ≡ true) × (are_sorted (r.1 + 1) rs ≡ true)
  parts = and_parts (nat_le from r.0 && nat_le r.0 r.1) (are_sorted (r.1 + 1) rs) sorted

  starts : (from ≤ r.0) × (r.0 ≤ r.1)
  starts = let both = and_parts (nat_le from r.0) (nat_le r.0 r.1) parts.0 in (leb-true from r.0 both.0, leb-true r.0 r.1 both.1)

  others : are_sorted (r.1 + 1) rs ≡ true
  others = parts.1

above : (r : ℕ × ℕ) (code : ℕ) → code < r.0 → (nat_le r.0 code && nat_le code r.1) ≡ false
above r code h = and_left (nat_le r.0 code) (nat_le code r.1) (lt-leb r.0 code h)

below : (r : ℕ × ℕ) (code : ℕ) → r.1 < code → (nat_le r.0 code && nat_le code r.1) ≡ false
below r code h = and_right (nat_le r.0 code) (nat_le code r.1) (lt-leb code r.1 h)

-- no range has a code point before all of them
none-before : (from : ℕ) (rs : List (ℕ × ℕ)) (code : ℕ) → are_sorted from rs ≡ true → code < from → in_ranges rs code ≡ false
none-before from [] code sorted h = refl
none-before from (r ∷ rs) code sorted h =
    let s = starts from r rs sorted in
    or_from (nat_le r.0 code && nat_le code r.1) (in_ranges rs code) (above r code (omega (arith, s.0, h))) (none-before (r.1 + 1) rs code (others from r rs sorted) (omega (arith, s.0, s.1, h)))

-- the last code point of a range is behind where the ranges begin
behind-start : (from : ℕ) (rs : List (ℕ × ℕ)) (i : ℕ) (d : ℕ × ℕ) → are_sorted from rs ≡ true → i < length rs → from ≤ (get_or rs i d).1
behind-start from [] i d sorted inside = absurd (omega (arith, inside))
behind-start from (r ∷ rs) zero d sorted inside = let s = starts from r rs sorted in omega (arith, s.0, s.1)
behind-start from (r ∷ rs) (suc i) d sorted inside =
    let s = starts from r rs sorted in
    let rest = behind-start (r.1 + 1) rs i d (others from r rs sorted) (omega (arith, inside)) in
    omega (arith, s.0, s.1, rest)

-- a code point before a range is in none from there on
pub none-from : (from : ℕ) (rs : List (ℕ × ℕ)) (i : ℕ) (d : ℕ × ℕ) (code : ℕ) → are_sorted from rs ≡ true → i < length rs → code < (get_or rs i d).0 → in_ranges (drop i rs) code ≡ false
none-from from [] i d code sorted inside h = absurd (omega (arith, inside))
none-from from (r ∷ rs) zero d code sorted inside h =
    let s = starts from r rs sorted in
    or_from (nat_le r.0 code && nat_le code r.1) (in_ranges rs code) (above r code h) (none-before (r.1 + 1) rs code (others from r rs sorted) (omega (arith, s.1, h)))
none-from from (r ∷ rs) (suc i) d code sorted inside h = none-from (r.1 + 1) rs i d code (others from r rs sorted) (omega (arith, inside)) h

-- a code point behind a range is in none up to there
pub none-up-to : (from : ℕ) (rs : List (ℕ × ℕ)) (i : ℕ) (d : ℕ × ℕ) (code : ℕ) → are_sorted from rs ≡ true → i < length rs → (get_or rs i d).1 < code → in_ranges (take (suc i) rs) code ≡ false
none-up-to from [] i d code sorted inside h = absurd (omega (arith, inside))
none-up-to from (r ∷ rs) zero d code sorted inside h = or_from (nat_le r.0 code && nat_le code r.1) false (below r code h) refl
none-up-to from (r ∷ rs) (suc i) d code sorted inside h =
    let k = behind-start (r.1 + 1) rs i d (others from r rs sorted) (omega (arith, inside)) in
    or_from (nat_le r.0 code && nat_le code r.1) (in_ranges (take (suc i) rs) code) (below r code (omega (arith, k, h)))
    (none-up-to (r.1 + 1) rs i d code (others from r rs sorted) (omega (arith, inside)) h)

-- a range that has the code point is found
pub some-range : (rs : List (ℕ × ℕ)) (i : ℕ) (d : ℕ × ℕ) (code : ℕ) → i < length rs → (get_or rs i d).0 ≤ code → code ≤ (get_or rs i d).1 → in_ranges rs code ≡ true
some-range [] i d code inside low high = absurd (omega (arith, inside))
some-range (r ∷ rs) zero d code inside low high =
    or_left (nat_le r.0 code && nat_le code r.1) (in_ranges rs code) (and_from (nat_le r.0 code) (nat_le code r.1) (le-leb r.0 code low) (le-leb code r.1 high))
some-range (r ∷ rs) (suc i) d code inside low high =
    or_right (nat_le r.0 code && nat_le code r.1) (in_ranges rs code) (some-range rs i d code (omega (arith, inside)) low high)

-- a code point that is in none before a place, and in none behind it, is in none
pub none-at-all : (rs : List (ℕ × ℕ)) (i : ℕ) (code : ℕ) → in_ranges (take i rs) code ≡ false → in_ranges (drop i rs) code ≡ false → in_ranges rs code ≡ false
none-at-all rs zero code h k = k
none-at-all [] (suc i) code h k = refl
none-at-all (r ∷ rs) (suc i) code h k = elim (nat_le r.0 code && nat_le code r.1) as (λ b. (b || in_ranges (take i rs) code) ≡ false → (b || in_ranges rs code) ≡ false) [
  | true ↦ λ e. e
  | false ↦ λ e. none-at-all rs i code e k
] h
