use Rattle.std.proofs.Common.{◌≡◌, ℕ, ◌-◌, ◌≤◌, List, drop, length}
use Rattle.std.specs.Prelude.{◌||◌}
use Rattle.mdinline_labels.specs.Defined.{defines}
use Rattle.mdgfm_footnotes.specs.CallEvents.{is_one_of, labels_in}
use Rattle.mdgfm_footnotes.proofs.events.labels_of.Given as goal

-- labels that are defined, and those that come
abbrev pub invariant-loop-at : goal.invariant-loop-at
invariant-loop-at l = record {
  same : (label : List ℕ) → (defines l.labels label || is_one_of (labels_in l.bytes (drop l.at l.events)) label) ≡ is_one_of (labels_in l.bytes l.events) label;
  room : l.at ≤ length l.events;
}

abbrev pub decreases-loop-at : goal.decreases-loop-at
decreases-loop-at l = length l.events - l.at
