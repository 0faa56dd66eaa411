use Rattle.markdown_children.proofs.Prelude.{◌≡◌, ◌+◌, ◌-◌, ◌≤◌, length, drop, front_until}
use Rattle.markdown_children.proofs.division.part_end.Given as goal

abbrev pub invariant-loop-at : goal.invariant-loop-at
invariant-loop-at l = record {
  walk : l.at + length (front_until l.end (drop l.at l.child)) ≡ l.start + length (front_until l.end (drop l.start l.child));
  within : l.at ≤ length l.child;
}

abbrev pub decreases-loop-at : goal.decreases-loop-at
decreases-loop-at l = length l.initial.child - l.at
