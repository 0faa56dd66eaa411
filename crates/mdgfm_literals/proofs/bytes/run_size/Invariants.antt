use Rattle.std.proofs.Common.{◌≡◌, ◌+◌, ◌-◌, ◌≤◌, drop, length}
use Rattle.std.specs.List.{prefix_len}
use Rattle.std.specs.Prelude.{not}
use Rattle.mdgfm_literals.specs.Bytes.{ends_literal}
use Rattle.mdgfm_literals.proofs.bytes.run_size.Given as goal

-- what was passed, and what is left
abbrev pub invariant-loop-next : goal.invariant-loop-next
invariant-loop-next l = record {
  same : l.next + prefix_len (λ b. not (ends_literal b)) (drop l.next l.text) ≡ prefix_len (λ b. not (ends_literal b)) l.text;
  room : l.next ≤ length l.text;
}

abbrev pub decreases-loop-next : goal.decreases-loop-next
decreases-loop-next l = length l.text - l.next
