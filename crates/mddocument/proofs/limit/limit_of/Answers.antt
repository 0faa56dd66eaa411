use Rattle.mddocument.proofs.Prelude.{◌≡◌, ◌+◌, ◌/◌, ◌*◌, ◌^◌, ◌<◌, ◌≤◌, ℕ, arith, sym, subst, ◌↔◌, le-div_iff_mul-le, mul_comm}
use Rattle.mddocument.proofs.limit.limit_of.Goals as goal

-- a number that fits into another one this many times
fits : (t k n : ℕ) → k ≡ t → 0 < k → (n ≤ 18446744073709551614 / k) ↔ (t * n + 1 < 2 ^ 64)
fits t k n e some =
    let both = le-div_iff_mul-le {k = k} {x = n} {y = 18446744073709551614} some in
    let same : n * k ≡ k * n = mul_comm n k in (
      (λ h. let m = both.0 h in let b : k * n + 1 < 2 ^ 64 = omega (arith, m, same) in subst (λ (x : ℕ). x * n + 1 < 2 ^ 64) e b),
      (λ h. let b : k * n + 1 < 2 ^ 64 = subst (λ (x : ℕ). x * n + 1 < 2 ^ 64) (sym e) h in both.1 (omega (arith, b, same))),
    )

pub returns : goal.returns
returns c = λ n. fits c.args.tab c.get.result n c.get.ensures.columns (let least = c.get.ensures.least in omega (arith, least))
