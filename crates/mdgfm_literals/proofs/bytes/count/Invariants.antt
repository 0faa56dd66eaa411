use Rattle.std.proofs.Common.{◌≡◌, ◌+◌, ◌-◌, ◌≤◌, drop, length}
use Rattle.mdgfm_literals.specs.Bytes.{count}
use Rattle.mdgfm_literals.proofs.bytes.count.Given as goal

-- how many were counted, and how many come
abbrev pub invariant-loop-next : goal.invariant-loop-next
invariant-loop-next l = record {
  same : l.all + count l.byte (drop l.next l.text) ≡ count l.byte l.text;
  few : l.all ≤ l.next;
  room : l.next ≤ length l.text;
}

abbrev pub decreases-loop-next : goal.decreases-loop-next
decreases-loop-next l = length l.text - l.next
