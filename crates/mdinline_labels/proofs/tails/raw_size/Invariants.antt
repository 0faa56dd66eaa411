use Rattle.std.proofs.Common.{length, ◌-◌, ◌+◌, ◌≡◌, ◌≤◌, drop, false}
use Rattle.mdinline_labels.specs.Tails.{behind, raw_size}
use Rattle.mdinline_labels.proofs.tails.raw_size.Given as goal

-- what was passed, and what is left of it
abbrev pub invariant-loop-next : goal.invariant-loop-next
invariant-loop-next g l = (behind l.next (raw_size l.depth l.hidden (drop l.next l.bytes)) ≡ raw_size 0 false l.bytes) × (l.next ≤ length l.bytes) × (l.turns ≤ l.fn.turns + l.next) × (l.depth ≤ 32)

abbrev pub decreases-loop-next : goal.decreases-loop-next
decreases-loop-next g l = length l.bytes - l.next
