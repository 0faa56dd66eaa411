use Rattle.std.proofs.Common.{◌≡◌, ◌-◌, ◌≤◌, ◌++◌, drop, length}
use Rattle.mdgfm_footnotes.specs.CallEvents.{with_insides}
use Rattle.mdgfm_footnotes.proofs.events.with_insides.Given as goal

-- what was written, and what comes
abbrev pub invariant-loop-at : goal.invariant-loop-at
invariant-loop-at l = record {
  same : l.out.items ++ with_insides l.tab l.bytes (drop l.count l.calls) (drop l.at l.events) ≡ with_insides l.tab l.bytes l.calls l.events;
  some : l.count ≤ length l.calls;
  room : l.at ≤ length l.events;
}

abbrev pub decreases-loop-at : goal.decreases-loop-at
decreases-loop-at l = length l.events - l.at
