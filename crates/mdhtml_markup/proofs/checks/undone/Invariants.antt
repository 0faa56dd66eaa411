use Rattle.std.proofs.Common.{◌≡◌, ◌-◌, ◌≤◌, drop, length, ◌++◌}
use Rattle.mdhtml_markup.specs.SafeHtml.{undone}
use Rattle.mdhtml_markup.proofs.checks.undone.Given as goal

abbrev pub invariant-loop-at : goal.invariant-loop-at
invariant-loop-at l = record {
  same : l.out.items ++ undone (drop l.at l.bytes) ≡ undone l.bytes;
  room : l.at ≤ length l.bytes;
}

abbrev pub decreases-loop-at : goal.decreases-loop-at
decreases-loop-at l = length l.bytes - l.at
