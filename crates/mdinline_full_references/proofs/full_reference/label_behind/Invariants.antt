use Rattle.std.proofs.Common.{◌≡◌, ◌≤◌, false, drop, length}
use Rattle.std.specs.List.{list_any}
use Rattle.mdinline_full_references.specs.FullReferenceRows.{begins_label}
use Rattle.mdinline_full_references.proofs.full_reference.label_behind.Given as goal

abbrev pub invariant-loop-at : goal.invariant-loop-at
invariant-loop-at l = record {
  passed : list_any begins_label (drop l.at l.events) ≡ false;
  room : l.at ≤ length l.events;
}

abbrev pub decreases-loop-at : goal.decreases-loop-at
decreases-loop-at l = l.at
