use Rattle.std.proofs.Common.{◌≡◌, ◌+◌, ◌-◌, ◌≤◌, drop, length}
use Rattle.mdgfm_footnotes.specs.Calls.{label_size}
use Rattle.mdgfm_footnotes.proofs.calls.label_size.Given as goal

-- what was passed, and what is left of the label
abbrev pub invariant-loop-next : goal.invariant-loop-next
invariant-loop-next l = record {
  same : l.next + label_size 0 (drop l.next l.text) ≡ label_size 0 l.text;
  room : l.next ≤ length l.text;
}

abbrev pub decreases-loop-next : goal.decreases-loop-next
decreases-loop-next l = length l.text - l.next
