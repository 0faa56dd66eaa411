use Rattle.std.proofs.Common.{◌≡◌, ◌-◌, ◌≤◌, ◌++◌, drop, length}
use Rattle.mdinline_labels.specs.Defined.{defines}
use Rattle.mdgfm_footnotes.specs.Calls.{calls_of}
use Rattle.mdgfm_footnotes.proofs.events.calls_of.Given as goal

-- those that were added, and those that come
abbrev pub invariant-loop-at : goal.invariant-loop-at
invariant-loop-at l = record {
  same : l.all.items ++ calls_of (defines l.labels) l.bytes l.depth 0 (drop l.at l.events) ≡ calls_of (defines l.labels) l.bytes 0 0 l.events;
  few : l.depth ≤ l.at;
  room : l.at ≤ length l.events;
}

abbrev pub decreases-loop-at : goal.decreases-loop-at
decreases-loop-at l = length l.events - l.at
