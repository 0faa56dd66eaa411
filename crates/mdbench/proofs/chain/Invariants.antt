use Rattle.mdbench.proofs.Prelude.{◌≡◌, ◌*◌, length, All, EndsBelow}
use Rattle.mdbench.proofs.chain.Given as goal

abbrev pub invariant-loop-k : goal.invariant-loop-k
invariant-loop-k l = (length l.events.items ≡ 2 * l.k) × All (EndsBelow (2 * l.count)) l.events.items
