-- What holds of literals that are there.
use Rattle.std.proofs.Common.{◌≡◌, ℕ, ◌≤◌, Option, Some, None, arith}
use Rattle.std.specs.Prelude.{IfSome}
use Rattle.mdgfm_literals.specs.declared.found.Found.{Found}
use Rattle.mdgfm_literals.specs.Found.{or_else}

-- the first of two
pub else-each : (P : Found → Type 0) (first other : Option Found) → IfSome first P → IfSome other P → IfSome (or_else first other) P
else-each P None other h k = k
else-each P (Some f) other h k = h

pub size-within : (o : Option Found) (size n : ℕ) → IfSome o (λ (f : Found). f.size ≡ size) → size ≤ n → IfSome o (λ (f : Found). f.size ≤ n)
size-within None size n h k = tt
size-within (Some f) size n h k = omega (arith, h, k)
