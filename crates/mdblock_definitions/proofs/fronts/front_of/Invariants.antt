use Rattle.std.proofs.Common.{length, ◌++◌, ◌-◌, ◌≡◌, ◌≤◌, drop}
use Rattle.mdinline_labels.proofs.Paid.{ArePaid}
use Rattle.mdinline_labels.specs.Definitions.{definitions, rest}
use Rattle.mdblock_definitions.proofs.fronts.front_of.Given as goal

-- those that were found, and those that the rest begins with
abbrev pub invariant-loop-next : goal.invariant-loop-next
invariant-loop-next g l =
    (l.definitions.items ++ definitions (drop l.next l.text) ≡ definitions l.text)
    × (rest (drop l.next l.text) ≡ rest l.text)
    × (l.next ≤ length l.text)
    × ArePaid l.text l.next l.fn.turns l.turns

abbrev pub decreases-loop-next : goal.decreases-loop-next
decreases-loop-next g l = length l.text - l.next
