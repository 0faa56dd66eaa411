use Rattle.std.proofs.Common.{◌≡◌, ◌≤◌, length}
use Rattle.mdgfm_literals.specs.Grammar.{left, trimmed}
use Rattle.mdgfm_literals.proofs.grammar.trimmed.Given as goal

-- what is left is what is left of the whole
abbrev pub invariant-loop-size : goal.invariant-loop-size
invariant-loop-size l = record {
  same : left l.text l.opening l.closing 0 l.size ≡ trimmed l.text;
  room : l.size ≤ length l.text;
}

abbrev pub decreases-loop-size : goal.decreases-loop-size
decreases-loop-size l = l.size
