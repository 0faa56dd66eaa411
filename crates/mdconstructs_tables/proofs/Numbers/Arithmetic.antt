-- Numbers of calls: sums, larger ones, a byte more, and fewer bytes.
use Rattle.std.proofs.Common.{◌≡◌, ℕ, suc, ◌+◌, ◌*◌, ◌≤◌, ◌&&◌, sym, List, [], ◌∷◌, Bool, true, false, cond, Some, length, mul-le-mul_left, mul-le-mul_right, arith}
use Rattle.std.specs.Prelude.{max, nat_le}
use Rattle.std.proofs.lemmas.Bool.{and_parts, leb-true}
use Rattle.mdconstructs_tables.specs.Numbers.{Numbers, calls_by, together, dearer, wherever, with_one_more, are_at_most, run_length}
use Rattle.mdconstructs_tables.proofs.CostNumbers.{square-falls}

pub together-is : (a b : Numbers) (r s : ℕ) → calls_by (together a b) r s ≡ calls_by a r s + calls_by b r s
together-is a b r s = omega arith

pub at-most : {W : Type 0} (w : W) (a b : Numbers) (r s : ℕ) → are_at_most (Some w) a b ≡ true → calls_by a r s ≤ calls_by b r s
at-most w a b r s h =
    let (one, h1) = and_parts (nat_le a.square b.square) (nat_le a.in_run b.in_run && (nat_le a.behind b.behind && nat_le a.more b.more)) h in
    let (two, h2) = and_parts (nat_le a.in_run b.in_run) (nat_le a.behind b.behind && nat_le a.more b.more) h1 in
    let (three, four) = and_parts (nat_le a.behind b.behind) (nat_le a.more b.more) h2 in
    omega (
      arith,
      mul-le-mul_right ((r + s) * (r + s)) (leb-true a.square b.square one),
      mul-le-mul_right r (leb-true a.in_run b.in_run two),
      mul-le-mul_right s (leb-true a.behind b.behind three),
      leb-true a.more b.more four,
    )

pub dearer-most : (x y : ℕ) (a b : Numbers) (r s : ℕ) → x ≤ calls_by a r s → y ≤ calls_by b r s → max x y ≤ calls_by (dearer a b) r s
dearer-most x y a b r s h k =
    let n = (r + s) * (r + s) in
    let c = dearer a b in
    let a1 : a.square ≤ c.square = omega arith in
    let a2 : a.in_run ≤ c.in_run = omega arith in
    let a3 : a.behind ≤ c.behind = omega arith in
    let a4 : a.more ≤ c.more = omega arith in
    let b1 : b.square ≤ c.square = omega arith in
    let b2 : b.in_run ≤ c.in_run = omega arith in
    let b3 : b.behind ≤ c.behind = omega arith in
    let b4 : b.more ≤ c.more = omega arith in
    let one : calls_by a r s ≤ calls_by c r s = omega (arith, mul-le-mul_right n a1, mul-le-mul_right r a2, mul-le-mul_right s a3, a4) in
    let two : calls_by b r s ≤ calls_by c r s = omega (arith, mul-le-mul_right n b1, mul-le-mul_right r b2, mul-le-mul_right s b3, b4) in
    omega (arith, h, k, one, two)

-- a byte of the run, and another byte, behind which a run may begin
one-more-in : (c : Numbers) (r s : ℕ) → calls_by c (suc r) s ≡ calls_by (with_one_more true c) r s
one-more-in c r s = omega arith

one-more-behind : (c : Numbers) (r s : ℕ) → calls_by c 0 (suc (r + s)) ≡ calls_by (with_one_more false c) r s
one-more-behind c r s = omega arith

pub one-more : (in_run : Bool) (c : Numbers) (r s r' s' : ℕ) → r ≡ cond in_run (suc r') 0 → r + s ≡ suc (r' + s') → calls_by c r s ≡ calls_by (with_one_more in_run c) r' s'
one-more true c r s r' s' h sum = let same : s ≡ s' = omega (arith, h, sum) in rw (h, same) (one-more-in c r' s')
one-more false c r s r' s' h sum = let same : s ≡ suc (r' + s') = omega (arith, h, sum) in rw (h, same) (one-more-behind c r' s')

-- if nothing is left
pub none-left-is : (c : Numbers) (r s : ℕ) → r ≡ 0 → s ≡ 0 → calls_by c r s ≡ c.more
none-left-is c r s h k = rw (h, k) (omega arith)

-- wherever the run ends, and however many bytes are left fewer
pub wherever-most : (c : Numbers) (r s r' s' : ℕ) → r' + s' ≤ r + s → calls_by c r' s' ≤ calls_by (wherever c) r s
wherever-most c r s r' s' h =
    let m = max c.in_run c.behind in
    let a1 : c.in_run ≤ m = omega arith in
    let a2 : c.behind ≤ m = omega arith in
    omega (arith, mul-le-mul_left c.square (square-falls (r + s) (r' + s') h), mul-le-mul_right r' a1, mul-le-mul_right s' a2, mul-le-mul_left m h)

-- what is by the bytes that are left falls
pub left-falls : (a b c u v : ℕ) → v ≤ u → a * (v * v) + b * v + c ≤ a * (u * u) + b * u + c
left-falls a b c u v h = omega (arith, mul-le-mul_left a (square-falls u v h), mul-le-mul_left b h)

-- and does not ask where the run ends
pub left-is : (a b c r s n : ℕ) → r + s ≡ n → a * (n * n) + b * n + c ≡ calls_by (record { square = a; in_run = b; behind = b; more = c }) r s
left-is a b c r s n h = rw (sym h) (omega arith)

-- a run is no longer than what is left
cond-most : (b : Bool) (x y z : ℕ) → x ≤ z → y ≤ z → cond b x y ≤ z
cond-most true x y z h k = h
cond-most false x y z h k = k

pub run-within : {A : Type 0} (test : A → Bool) (xs : List A) → run_length test xs ≤ length xs
run-within test [] = omega arith
run-within test (x ∷ xs) = cond-most (test x) (suc (run_length test xs)) 0 (length (x ∷ xs)) (omega (arith, run-within test xs)) (omega arith)
