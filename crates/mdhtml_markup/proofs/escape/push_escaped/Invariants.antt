use Rattle.std.proofs.Common.{◌≡◌, ◌++◌, length}
use Rattle.mdhtml_markup.specs.Escapes.{escaped}
use Rattle.mdhtml_markup.proofs.escape.push_escaped.Given as goal

-- what was added, and what is to come
abbrev pub invariant-runs : goal.invariant-runs
invariant-runs l = l.out.items ++ escaped l.rest ≡ l.initial.out.items ++ escaped l.text

abbrev pub decreases-runs : goal.decreases-runs
decreases-runs l = length l.rest
