use Rattle.mdinline_labels.proofs.Prelude.{length, ◌-◌, ◌+◌, ◌≡◌, ◌≤◌, drop, prefix_len, is_white}
use Rattle.mdinline_labels.proofs.tails.blanks.Given as goal

-- what was passed, and what is left of the white space
abbrev pub invariant-loop-next : goal.invariant-loop-next
invariant-loop-next g l = (l.next + prefix_len is_white (drop l.next l.bytes) ≡ prefix_len is_white l.bytes) × (l.next ≤ length l.bytes) × (l.turns ≤ l.fn.turns + l.next)

abbrev pub decreases-loop-next : goal.decreases-loop-next
decreases-loop-next g l = length l.bytes - l.next
