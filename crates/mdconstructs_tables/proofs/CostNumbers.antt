-- Numbers that costs of tables need.
use Rattle.std.proofs.Common.{◌≡◌, ℕ, zero, suc, ◌+◌, ◌-◌, ◌*◌, ◌<◌, ◌≤◌, arith}

-- with a byte less
pub next-left : (n p : ℕ) → p < n → n - p ≡ suc (n - (p + 1))
next-left n p h = omega (arith, h)

-- the fewer are left, the less is a square, and so is what grows with it
pub square-falls : (u v : ℕ) → v ≤ u → v * v ≤ u * u
square-falls zero v h = let none : v ≡ 0 = omega (arith, h) in rw none (omega arith)
square-falls (suc u) zero h = omega arith
square-falls (suc u) (suc v) h = omega (arith, square-falls u v (omega (arith, h)), h)
