-- Lemmas on the bytes between two places.
use Rattle.markdown_base.proofs.Prelude.{◌≡◌, ℕ, zero, suc, ◌+◌, ◌-◌, ◌≤◌, min, max, Bool, true, false, List, ◌∷◌, length, take, drop, get_or, refl, sym, ap, ◌∙◌, arith, ltb-true, ltb-false, ◌&&◌, not, nat_lt, filter, map, slice_index, slice_range, range_with_len, Point, stands_before, lies_between, byte_place, bytes_between, first_byte, nat_tests}
use Rattle.std.proofs.Math.Seq.{drop-cons}
use Rattle.std.proofs.lemmas.List.Elements.{filter_agree}

-- the bytes before a place are the bytes before the first one that is not before it
before_first : (p : Point) (index : ℕ) → stands_before (byte_place index) p ≡ nat_lt index (first_byte p)
before_first p index = grind (arith, nat_tests)

abbrev is_within : (low high : ℕ) → ℕ → Bool
is_within low high i = not (nat_lt i low) && nat_lt i high

-- the indices of a range in another
kept_range : (low high start n : ℕ) → filter (is_within low high) (range_with_len start n) ≡ range_with_len (max start low) (min high (start + n) - max start low)
kept_range low high start zero = ap (λ m. range_with_len (max start low) m) {x = 0} {y = min high (start + 0) - max start low} (omega arith)
kept_range low high start (suc n) = go (nat_lt start low) (nat_lt start high) refl refl (kept_range low high (start + 1) n)
  where
    go : (x y : Bool) → nat_lt start low ≡ x → nat_lt start high ≡ y → filter (is_within low high) (range_with_len (start + 1) n) ≡ range_with_len (max (start + 1) low) (min high (start + 1 + n) - max (start + 1) low)
        → filter (is_within low high) (range_with_len start (suc n)) ≡ range_with_len (max start low) (min high (start + suc n) - max start low)
    go true y ex ey more =
        let at : max (start + 1) low ≡ max start low = omega (arith, ltb-true start low ex) in
        let len : min high (start + 1 + n) - max (start + 1) low ≡ min high (start + suc n) - max start low = omega (arith, ltb-true start low ex) in
        rw ex (more ∙ ap (λ a. range_with_len a (min high (start + 1 + n) - max (start + 1) low)) at ∙ ap (λ m. range_with_len (max start low) m) len)
    go false true ex ey more =
        let at : max (start + 1) low ≡ start + 1 = omega (arith, ltb-false start low ex) in
        let here : start ≡ max start low = omega (arith, ltb-false start low ex) in
        let len : suc (min high (start + 1 + n) - max (start + 1) low) ≡ min high (start + suc n) - max start low = omega (arith, ltb-false start low ex, ltb-true start high ey) in
        rw (ex, ey) (ap (λ xs. start ∷ xs) (more ∙ ap (λ a. range_with_len a (min high (start + 1 + n) - max (start + 1) low)) at)
        ∙ ap (λ m. range_with_len start m) len ∙ ap (λ a. range_with_len a (min high (start + suc n) - max start low)) here)
    go false false ex ey more =
        let none : min high (start + 1 + n) - max (start + 1) low ≡ 0 = omega (arith, ltb-false start high ey) in
        let none_here : 0 ≡ min high (start + suc n) - max start low = omega (arith, ltb-false start high ey) in
        rw (ex, ey) (more ∙ ap (λ m. range_with_len (max (start + 1) low) m) none ∙ ap (λ m. range_with_len (max start low) m) none_here)

-- the bytes at the indices of a range
bytes_at : (bytes : List ℕ) (start n : ℕ) → start + n ≤ length bytes → map (slice_index bytes) (range_with_len start n) ≡ take n (drop start bytes)
bytes_at bytes start zero within = refl
bytes_at bytes start (suc n) within =
    let more = bytes_at bytes (start + 1) n (omega arith) in
    let next : start + 1 ≡ suc start = omega arith in
    ap (λ xs. get_or bytes start 0 ∷ xs) (more ∙ ap (λ i. take n (drop i bytes)) next) ∙ ap (λ xs. take (suc n) xs) (sym (drop-cons bytes start 0 (omega arith)))

-- the bytes between two places are those from the one's first byte on, up to the other's
pub bytes-between : (bytes : List ℕ) (p q : Point) → first_byte p ≤ first_byte q → first_byte q ≤ length bytes → slice_range bytes (first_byte p) (first_byte q) ≡ bytes_between bytes p q
bytes-between bytes p q ordered within =
    let a = first_byte p in
    let b = first_byte q in
    let kept = filter_agree (λ i. lies_between p q (byte_place i)) (is_within a b) (λ i. rw (before_first p i, before_first q i) refl) (range_with_len 0 (length bytes)) ∙ kept_range a b 0 (length bytes) in
    let len : min b (0 + length bytes) - max 0 a ≡ b - a = omega arith in
    let at : max 0 a ≡ a = omega arith in
    sym (ap (map (slice_index bytes)) (kept ∙ ap (λ m. range_with_len (max 0 a) m) len ∙ ap (λ i. range_with_len i (b - a)) at) ∙ bytes_at bytes a (b - a) (omega arith))
