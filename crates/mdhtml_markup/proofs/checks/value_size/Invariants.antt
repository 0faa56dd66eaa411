use Rattle.std.proofs.Common.{◌≡◌, ◌-◌, ◌≤◌, drop, length, ◌+◌}
use Rattle.std.specs.List.{prefix_len}
use Rattle.std.specs.Prelude.{◌==◌, not}
use Rattle.mdhtml_markup.proofs.checks.value_size.Given as goal

abbrev pub invariant-loop-at : goal.invariant-loop-at
invariant-loop-at l = record {
  same : prefix_len (λ b. not (b == 34)) l.bytes ≡ l.at + prefix_len (λ b. not (b == 34)) (drop l.at l.bytes);
  room : l.at ≤ length l.bytes;
}

abbrev pub decreases-loop-at : goal.decreases-loop-at
decreases-loop-at l = length l.bytes - l.at
