-- Sizes, byte by byte.
use Rattle.std.proofs.Common.{◌≡◌, ℕ, ◌+◌, Option, Some, None, refl, ap, arith}
use Rattle.mdinline_labels.specs.Tails.{one_more, behind}

-- one byte more was passed
pub behind-more : (n : ℕ) (size : Option ℕ) → behind n (one_more size) ≡ behind (n + 1) size
behind-more n None = refl
behind-more n (Some m) = let e : n + (m + 1) ≡ (n + 1) + m = omega arith in ap (λ k. Some k) e

pub behind-none : (size : Option ℕ) → behind 0 size ≡ size
behind-none None = refl
behind-none (Some m) = let e : 0 + m ≡ m = omega arith in ap (λ k. Some k) e

pub ruleset sizes = (behind-more, behind-none)
