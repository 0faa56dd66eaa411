use Rattle.std.proofs.Common.{◌≡◌, ◌++◌, drop}
use Rattle.mdexamples.specs.Linter.{fences}
use Rattle.mdexamples.proofs.linter.fences.Given as goal

abbrev pub invariant-loop-i : goal.invariant-loop-i
invariant-loop-i l = l.found.items ++ fences l.bytes (drop l.i l.events) ≡ fences l.bytes l.events
