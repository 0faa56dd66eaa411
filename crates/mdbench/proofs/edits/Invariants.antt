use Rattle.mdbench.proofs.Prelude.{◌*◌}
use Rattle.mdbench.proofs.Insertions.{AreInsertions}
use Rattle.mdbench.proofs.edits.Given as goal

-- the edits so far remove nothing, and are in the list
abbrev pub invariant-loop-step : goal.invariant-loop-step
invariant-loop-step l = AreInsertions 0 l.map (2 * l.count)
