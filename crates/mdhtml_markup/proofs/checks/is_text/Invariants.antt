use Rattle.std.proofs.Common.{◌≡◌, ◌-◌, ◌≤◌, drop, length}
use Rattle.mdhtml_markup.specs.SafeHtml.{is_text}
use Rattle.mdhtml_markup.proofs.checks.is_text.Given as goal

abbrev pub invariant-loop-at : goal.invariant-loop-at
invariant-loop-at l = record {
  same : is_text l.bytes ≡ is_text (drop l.at l.bytes);
  room : l.at ≤ length l.bytes;
}

abbrev pub decreases-loop-at : goal.decreases-loop-at
decreases-loop-at l = length l.bytes - l.at
