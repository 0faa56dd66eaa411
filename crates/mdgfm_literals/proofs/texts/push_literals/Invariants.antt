use Rattle.std.proofs.Common.{◌≡◌, ◌+◌, ◌-◌, ◌≤◌, ◌++◌, drop, length}
use Rattle.mdgfm_literals.specs.Grammar.{IsKnown}
use Rattle.mdgfm_literals.specs.Literals.{literals_from}
use Rattle.mdgfm_literals.proofs.texts.push_literals.Given as goal

-- those that were added, and those that come
abbrev pub invariant-loop-at : goal.invariant-loop-at
invariant-loop-at l = record {
  same : l.all.items ++ literals_from 0 l.before (l.start + l.at) (drop l.at l.text) ≡ l.fn.all.items ++ literals_from 0 l.fn.first l.start l.text;
  known : IsKnown l.known (drop l.at l.text);
  room : l.at ≤ length l.text;
}

abbrev pub decreases-loop-at : goal.decreases-loop-at
decreases-loop-at l = length l.text - l.at
