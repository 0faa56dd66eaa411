use Rattle.std.proofs.Common.{length, ◌+◌, ◌-◌, ◌≡◌, ◌≤◌, drop}
use Rattle.mdinline_labels.proofs.Paid.{ArePaid}
use Rattle.mdinline_labels.specs.Definitions.{definitions, rest}
use Rattle.mdinline_labels.proofs.definitions.definitions_counted.Given as goal

-- those that were passed, and those that the rest begins with
abbrev pub invariant-loop-next : goal.invariant-loop-next
invariant-loop-next g l =
    (l.count + length (definitions (drop l.next l.bytes)) ≡ length (definitions l.bytes))
    × (rest (drop l.next l.bytes) ≡ rest l.bytes)
    × (l.next ≤ length l.bytes) × (l.count ≤ l.next)
    × ArePaid l.bytes l.next l.fn.turns l.turns

abbrev pub decreases-loop-next : goal.decreases-loop-next
decreases-loop-next g l = length l.bytes - l.next
