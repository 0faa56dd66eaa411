-- What is known of the next byte, call by call.
use Rattle.markdown_tokenizer.proofs.Prelude.{◌≡◌, ◌≢◌, ℕ, suc, ◌+◌, ◌*◌, ◌≤◌, ◌<◌, ◌==◌, List, length, false, refl, arith, ◌^◌, nat_lt, ◌&&◌, ◌||◌, mul-add, mul-le-mul_left, mul-le-mul_right, mul-suc, nat_tests, Point, IsWithinLimit, Waits, Plain, Other, IsPlace, CanMove, moved, resumed, IsPlainUntil, NextByteIsKnown}
use Rattle.markdown_tokenizer.proofs.Positions.Order.{not-number}

-- a gap begins only at the beginning of a line
pub resumed-in-line : (skips : List Point) (p : Point) → p.column ≢ 1 → resumed skips p ≡ p
resumed-in-line skips p h = let e = not-number p.column 1 h in rw e refl

module _ (skips : List Point) (place : Point) (end : ℕ) where
  -- no index is below zero
  pub plain-none : IsPlainUntil skips place end 0
  plain-none = record { before = omega arith; flat = λ h. absurd (omega arith); there = λ h. absurd (omega arith) }

  -- after a plain byte as much is known as before
  pub plain-on : (plain_until : ℕ) → plain_until ≤ end → 1 ≤ place.column → IsPlainUntil skips (moved Plain place) end plain_until
  plain-on plain_until before first = record {
    before = before;
    flat = λ h. refl;
    there = λ h. resumed-in-line skips (moved Plain place) (λ e. let f : place.column + 1 ≡ 1 = e in omega (arith, f, first));
  }

  -- it is not known how the place moves
  pub known-other : (own : List ℕ) (tab : ℕ) (bytes : List ℕ) → own ≡ bytes → (plain_until : ℕ) → IsPlainUntil skips place end plain_until → (waits : Waits) → NextByteIsKnown own tab bytes skips place end plain_until waits Other
  known-other own tab bytes is plain_until r waits = record { own_bytes = is; is_plain_until = r; there = λ w o. absurd (o refl); over = λ w o. absurd (o refl) }

-- a place before the end of a document can move
pub place-fits : (t : ℕ) (bytes : List ℕ) (p : Point) → 0 < t → IsWithinLimit t bytes → IsPlace t bytes p → p.index < length bytes → CanMove p
place-fits t bytes p some limit place inside =
    let all : t * suc p.index ≤ t * length bytes = mul-le-mul_left t (omega (arith, inside)) in
    let split : t * suc p.index ≡ t * p.index + t = mul-suc t p.index in
    let each : 1 * length bytes ≤ t * length bytes = mul-le-mul_right (length bytes) (omega (arith, some)) in
    record {
      line = omega arith;
      index = omega arith;
      column = omega arith;
      first = place.bounds.first;
      number = omega arith;
    }

pub not-before-index : (i v j u : ℕ) → (nat_lt i j || ((i == j) && nat_lt v u)) ≡ false → j ≤ i
not-before-index i v j u h = grind (arith, nat_tests)

-- and so it can over bytes that are in no tab, up to the end of the document
pub run-fits : (t : ℕ) (bytes : List ℕ) (p : Point) (n : ℕ) → 0 < t → IsWithinLimit t bytes → IsPlace t bytes p → p.vs ≡ 0 → p.index + n ≤ length bytes → p.column + n < 2 ^ 64
run-fits t bytes p n some limit place flat inside =
    let all : t * (p.index + n) ≤ t * length bytes = mul-le-mul_left t inside in
    let split : t * (p.index + n) ≡ t * p.index + t * n = mul-add t p.index n in
    let each : 1 * n ≤ t * n = mul-le-mul_right n (omega (arith, some)) in
    let columns = place.bounds.columns in
    omega (arith, columns, limit, flat, all, split, each)
