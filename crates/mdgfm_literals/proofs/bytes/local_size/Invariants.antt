use Rattle.std.proofs.Common.{◌≡◌, ◌+◌, ◌-◌, ◌≤◌, drop, length}
use Rattle.std.specs.List.{prefix_len}
use Rattle.mdgfm_literals.specs.Bytes.{in_local}
use Rattle.mdgfm_literals.proofs.bytes.local_size.Given as goal

-- what was passed, and what is left
abbrev pub invariant-loop-next : goal.invariant-loop-next
invariant-loop-next l = record {
  same : l.next + prefix_len in_local (drop l.next l.text) ≡ prefix_len in_local l.text;
  room : l.next ≤ length l.text;
}

abbrev pub decreases-loop-next : goal.decreases-loop-next
decreases-loop-next l = length l.text - l.next
