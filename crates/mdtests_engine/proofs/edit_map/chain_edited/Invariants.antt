use Rattle.mdtests_engine.proofs.Prelude.{◌-◌, ◌*◌, AreDisjoint}
use Rattle.mdtests_engine.proofs.edit_map.chain_edited.Given as goal

-- the edits so far are at the last spans
abbrev pub invariant-loop-step : goal.invariant-loop-step
invariant-loop-step l = AreDisjoint (200 - 2 * l.step) l.map 200
