use Rattle.std.proofs.Common.{◌≡◌, ◌++◌, drop}
use Rattle.mdexamples.specs.Linter.{headings}
use Rattle.mdexamples.proofs.linter.headings.Given as goal

abbrev pub invariant-loop-i : goal.invariant-loop-i
invariant-loop-i l = l.found.items ++ headings l.bytes (drop l.i l.events) ≡ headings l.bytes l.events
