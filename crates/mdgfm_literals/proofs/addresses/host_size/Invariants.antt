use Rattle.std.proofs.Common.{◌≡◌, ◌+◌, ◌-◌, ◌≤◌, drop, length}
use Rattle.mdgfm_literals.specs.Grammar.{host_size}
use Rattle.mdgfm_literals.proofs.addresses.host_size.Given as goal

-- what was passed, and what is left
abbrev pub invariant-loop-next : goal.invariant-loop-next
invariant-loop-next l = record {
  same : l.next + host_size (drop l.next l.text) ≡ host_size l.text;
  room : l.next ≤ length l.text;
}

abbrev pub decreases-loop-next : goal.decreases-loop-next
decreases-loop-next l = length l.text - l.next
