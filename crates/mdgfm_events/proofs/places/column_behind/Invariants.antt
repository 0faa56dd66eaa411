use Rattle.std.proofs.Common.{◌≡◌, ◌-◌, ◌≤◌, drop, length}
use Rattle.mdgfm_events.specs.Places.{column_behind}
use Rattle.mdgfm_events.proofs.places.column_behind.Given as goal

-- the column behind what was passed, and what comes
abbrev pub invariant-loop-next : goal.invariant-loop-next
invariant-loop-next l = record {
  same : column_behind l.tab l.column (drop l.next l.text) ≡ column_behind l.tab l.first l.text;
  room : l.next ≤ length l.text;
}

abbrev pub decreases-loop-next : goal.decreases-loop-next
decreases-loop-next l = length l.text - l.next
