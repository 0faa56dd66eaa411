use Rattle.mdconstructs_machines.proofs.Prelude.{◌≡◌, ◌+◌, ◌-◌, ◌*◌, ◌/◌, ℕ, zero, suc, length, refl, arith, rules, triangle, triangle-is}
use Rattle.mdconstructs_machines.proofs.laws.costs_at_the_start.Goals as goal

half : (a b : ℕ) → a ≡ 2 * b → a / 2 ≡ b
half a b e = omega (arith, e)

doubled : (n : ℕ) → n * (n - 1) ≡ 2 * triangle n
doubled zero = refl
doubled (suc n) = let less : suc n - 1 ≡ n = omega arith in rw less (omega (arith, triangle-is n))

triangle-half : (n : ℕ) → triangle n + 4 * n + 1 ≡ n * (n - 1) / 2 + 4 * n + 1
triangle-half n = let h = half (n * (n - 1)) (triangle n) (doubled n) in omega (arith, h)

pub returns : goal.returns
returns c = record {
  lines = record { starts = λ g. refl; cost = λ g text flag. omega arith };
  paragraphs = record { starts = λ g. refl; among = search rules; cost = λ g text flag. omega arith };
  paragraphs_as_text = record { starts = λ g. refl; among = search rules; cost = λ g text flag. omega arith };
  peek = record { starts = λ g. refl; cost = λ g text flag. omega arith };
  deep = record { starts = λ g. refl; cost = λ g text flag. let all : length text.seats - 0 ≡ length text.seats = omega arith in rw all (omega (arith, triangle-half (length text.seats))) };
  back = record { starts = λ g. refl; cost = λ g text flag. omega arith };
  save = record { starts = λ g. refl; cost = λ g text flag. omega arith };
  words = record { starts = λ g. refl; cost = λ g text flag. omega arith };
  fail = λ at. record { starts = λ g. refl; cost = λ g text flag. omega arith };
  wrap = λ refuse. record { starts = λ g. refl; cost = λ g text flag. omega arith };
}
