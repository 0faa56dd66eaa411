use Rattle.std.proofs.Common.{◌≡◌, ◌-◌, ◌≤◌, drop, length}
use Rattle.mdgfm_literals.specs.Stretches.{reach}
use Rattle.mdgfm_literals.proofs.EventSteps.{more}
use Rattle.mdgfm_literals.proofs.stretches.stretch_from.Given as goal

-- what was passed, and what is left
abbrev pub invariant-loop-size : goal.invariant-loop-size
invariant-loop-size l = record {
  same : more l.size (reach 0 l.stop (drop l.size l.events)) ≡ reach 0 l.from l.events;
  room : l.size ≤ length l.events;
}

abbrev pub decreases-loop-size : goal.decreases-loop-size
decreases-loop-size l = length l.events - l.size
