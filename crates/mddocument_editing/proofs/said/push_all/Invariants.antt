use Rattle.std.proofs.Common.{◌≡◌, ◌++◌, drop}
use Rattle.mddocument_editing.specs.Said.{saids}
use Rattle.mddocument_editing.proofs.said.push_all.Given as goal

abbrev pub invariant-loop-at : goal.invariant-loop-at
invariant-loop-at l = l.all.items ++ saids l.bytes (drop l.at l.events) ≡ l.fn.all.items ++ saids l.bytes l.events
