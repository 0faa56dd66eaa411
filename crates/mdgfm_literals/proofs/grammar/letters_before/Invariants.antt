use Rattle.std.proofs.Common.{◌≡◌, ◌+◌, ◌-◌, ◌≤◌}
use Rattle.mdgfm_literals.specs.Grammar.{letters_before}
use Rattle.mdgfm_literals.proofs.grammar.letters_before.Given as goal

-- what was passed, and what is before it
abbrev pub invariant-loop-size : goal.invariant-loop-size
invariant-loop-size l = record {
  same : letters_before l.text l.at ≡ l.size + letters_before l.text (l.at - l.size);
  room : l.size ≤ l.at;
}

abbrev pub decreases-loop-size : goal.decreases-loop-size
decreases-loop-size l = l.at - l.size
