use Rattle.std.proofs.Common.{◌≡◌, ◌-◌, ◌≤◌, drop, length, ◌+◌}
use Rattle.std.specs.Char.{is_ascii_alphanumeric}
use Rattle.std.specs.List.{prefix_len}
use Rattle.mdhtml_markup.proofs.checks.name_size.Given as goal

abbrev pub invariant-loop-at : goal.invariant-loop-at
invariant-loop-at l = record {
  same : prefix_len is_ascii_alphanumeric l.bytes ≡ l.at + prefix_len is_ascii_alphanumeric (drop l.at l.bytes);
  room : l.at ≤ length l.bytes;
}

abbrev pub decreases-loop-at : goal.decreases-loop-at
decreases-loop-at l = length l.bytes - l.at
