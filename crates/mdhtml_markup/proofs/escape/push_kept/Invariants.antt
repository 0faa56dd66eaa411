use Rattle.std.proofs.Common.{◌≡◌, ◌-◌, ◌≤◌, ◌++◌, drop, take, length}
use Rattle.mdhtml_markup.specs.Escapes.{kept}
use Rattle.mdhtml_markup.proofs.escape.push_kept.Given as goal

-- what was added, what waits, and what is to come
abbrev pub invariant-loop-at : goal.invariant-loop-at
invariant-loop-at l = record {
  same : l.out.items ++ (drop l.from (take l.at l.html) ++ kept (drop l.at l.html)) ≡ l.initial.out.items ++ kept l.html;
  order : l.from ≤ l.at;
  room : l.at ≤ length l.html;
}

abbrev pub decreases-loop-at : goal.decreases-loop-at
decreases-loop-at l = length l.html - l.at
