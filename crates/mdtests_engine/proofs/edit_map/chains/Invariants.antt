use Rattle.mdtests_engine.proofs.Prelude.{◌≡◌, ◌*◌, length, All, EndsBelow}
use Rattle.mdtests_engine.proofs.edit_map.chains.Given as goal

abbrev pub invariant-loop-k : goal.invariant-loop-k
invariant-loop-k l = (length l.events.items ≡ 2 * l.k) × All (EndsBelow (2 * l.count)) l.events.items
