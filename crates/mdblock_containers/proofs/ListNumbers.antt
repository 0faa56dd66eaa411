-- Lemmas on the numbers that lists start with.
use Rattle.std.proofs.Common.{◌≡◌, ℕ, ◌+◌, ◌*◌, ◌-◌, ◌^◌, ◌<◌, ◌≤◌, true, List, length, take, get_or, sym, subst, add-one, arith}
use Rattle.std.specs.Prelude.{slice_index}
use Rattle.std.specs.List.{prefix_len}
use Rattle.std.proofs.Math.Nat.{pow-suc, pow-le-pow_right}
use Rattle.std.proofs.lemmas.Bool.Decides.{nat_tests}
use Rattle.std.proofs.lemmas.List.{get_or-take}
use Rattle.std.proofs.lemmas.List.Folds.{length-prefix_len}
use Rattle.std.proofs.lemmas.List.Sums.{prefix_len_passes}
use Rattle.mdblock_containers.specs.Lists.{is_digit}

-- one digit more
digit_more : (n i d : ℕ) → n < 10 ^ i → d ≤ 57 → 10 * n + (d - 48) < 10 ^ (i + 1)
digit_more n i d h m =
    let q : 10 ^ (i + 1) ≡ 10 ^ i * 10 = rw add-one (pow-suc 10 i) in
    omega (arith, q)

-- nine digits are a number below a thousand million
pub digits_fit : (n i d : ℕ) → n < 10 ^ i → i < 9 → d ≤ 57 → 10 * n + (d - 48) < 1000000000
digits_fit n i d h m k =
    let a : 10 * n + (d - 48) < 10 ^ (i + 1) = digit_more n i d h k in
    let small : i + 1 ≤ 9 = omega arith in
    let some : 0 < 10 = omega arith in
    let b : 10 ^ (i + 1) ≤ 10 ^ 9 = pow-le-pow_right some small in
    omega (arith, a, b)

-- what a test says of a byte
digit_bounds : (b : ℕ) → is_digit b ≡ true → (48 ≤ b) × (b ≤ 57)
digit_bounds b h = (grind (arith, nat_tests), grind (arith, nat_tests))

-- the digits that come first are digits
pub first_digits : (t : List ℕ) (k : ℕ) → k < length (take (prefix_len is_digit t) t)
    → (48 ≤ slice_index (take (prefix_len is_digit t) t) k) × (slice_index (take (prefix_len is_digit t) t) k ≤ 57)
first_digits t k h =
    let small : k < prefix_len is_digit t = omega (arith, length-prefix_len is_digit t) in
    subst (λ (b : ℕ). (48 ≤ b) × (b ≤ 57)) (sym (get_or-take (prefix_len is_digit t) t k 0 small)) (digit_bounds (get_or t k 0) (prefix_len_passes is_digit t k 0 small))
