use Rattle.std.proofs.Common.{length, ◌-◌, ◌+◌, ◌≡◌, ◌≤◌, drop}
use Rattle.mdinline_labels.specs.Labels.{is_label}
use Rattle.mdinline_labels.proofs.LabelSteps.{label_from}
use Rattle.mdinline_labels.proofs.is_label_counted.Given as goal

-- what is left to be seen says whether all is a label
abbrev pub invariant-loop-next : goal.invariant-loop-next
invariant-loop-next g l =
    (label_from l.characters l.filled l.hidden (drop l.next l.bytes) ≡ is_label l.bytes)
    × (l.next ≤ length l.bytes) × (l.turns ≤ l.fn.turns + l.next) × (l.characters ≤ 999)

abbrev pub decreases-loop-next : goal.decreases-loop-next
decreases-loop-next g l = length l.bytes - l.next
