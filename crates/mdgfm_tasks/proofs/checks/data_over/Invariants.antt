use Rattle.std.proofs.Common.{◌≡◌, ◌-◌, ◌≤◌, drop, length}
use Rattle.mdgfm_tasks.specs.Checks.{data_over}
use Rattle.mdgfm_tasks.proofs.Loops.{behind}
use Rattle.mdgfm_tasks.proofs.checks.data_over.Given as goal

-- data that was passed, and what comes
abbrev pub invariant-loop-next : goal.invariant-loop-next
invariant-loop-next l = record {
  same : behind l.next (data_over l.at l.many (drop l.next l.events)) ≡ data_over l.at l.many l.events;
  room : l.next ≤ length l.events;
}

abbrev pub decreases-loop-next : goal.decreases-loop-next
decreases-loop-next l = length l.events - l.next
