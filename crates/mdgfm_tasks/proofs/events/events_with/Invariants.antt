use Rattle.std.proofs.Common.{◌≡◌, ◌-◌, ◌≤◌, ◌++◌, drop, length}
use Rattle.mdgfm_tasks.specs.declared.awaited.Awaited.TheVariants.{Nothing}
use Rattle.mdgfm_tasks.specs.TaskEvents.{events_with}
use Rattle.mdgfm_tasks.proofs.events.events_with.Given as goal

-- what was written, and what comes
abbrev pub invariant-loop-at : goal.invariant-loop-at
invariant-loop-at g l = record {
  same : l.out.items ++ events_with l.tab l.bytes 0 l.awaited (drop l.at l.events) ≡ events_with l.tab l.bytes 0 Nothing l.events;
  room : l.at ≤ length l.events;
}

abbrev pub decreases-loop-at : goal.decreases-loop-at
decreases-loop-at g l = length l.events - l.at
