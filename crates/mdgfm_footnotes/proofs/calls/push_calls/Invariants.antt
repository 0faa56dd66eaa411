use Rattle.std.proofs.Common.{◌≡◌, ◌+◌, ◌-◌, ◌≤◌, ◌++◌, drop, length}
use Rattle.mdinline_labels.specs.Defined.{defines}
use Rattle.mdgfm_footnotes.specs.Calls.{calls_from}
use Rattle.mdgfm_footnotes.proofs.calls.push_calls.Given as goal

-- those that were added, and those that come
abbrev pub invariant-loop-at : goal.invariant-loop-at
invariant-loop-at l = record {
  same : l.all.items ++ calls_from (defines l.labels) 0 (l.start + l.at) (drop l.at l.text) ≡ l.fn.all.items ++ calls_from (defines l.labels) 0 l.start l.text;
  room : l.at ≤ length l.text;
}

abbrev pub decreases-loop-at : goal.decreases-loop-at
decreases-loop-at l = length l.text - l.at
