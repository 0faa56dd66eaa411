use Rattle.std.proofs.Common.{length, ◌-◌, ◌+◌, ◌≡◌, ◌≤◌, drop, false}
use Rattle.mdinline_labels.specs.Tails.{behind, enclosed_size}
use Rattle.mdinline_labels.proofs.tails.enclosed_size.Given as goal

-- what was passed, and what is left of it
abbrev pub invariant-loop-next : goal.invariant-loop-next
invariant-loop-next g l = (behind l.next (enclosed_size l.hidden (drop l.next l.bytes)) ≡ enclosed_size false l.bytes) × (l.next ≤ length l.bytes) × (l.turns ≤ l.fn.turns + l.next)

abbrev pub decreases-loop-next : goal.decreases-loop-next
decreases-loop-next g l = length l.bytes - l.next
