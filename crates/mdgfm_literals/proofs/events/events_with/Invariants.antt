use Rattle.std.proofs.Common.{◌≡◌, ◌-◌, ◌≤◌, ◌++◌, drop, length}
use Rattle.markdown_base.specs.Virtual.{point}
use Rattle.mdgfm_literals.specs.LiteralEvents.{events_with}
use Rattle.mdgfm_literals.proofs.events.events_with.Given as goal

-- what was written, and what comes
abbrev pub invariant-loop-at : goal.invariant-loop-at
invariant-loop-at l = record {
  same : l.out.items ++ events_with l.tab l.bytes 0 l.depth l.place (drop l.count l.literals) (drop l.at l.events) ≡ events_with l.tab l.bytes 0 0 (point 1 1 0 0) l.literals l.events;
  few : l.depth ≤ l.at;
  some : l.count ≤ length l.literals;
  room : l.at ≤ length l.events;
}

abbrev pub decreases-loop-at : goal.decreases-loop-at
decreases-loop-at l = length l.events - l.at
