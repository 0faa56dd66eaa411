use Rattle.std.proofs.Common.{◌≡◌, drop}
use Rattle.mdexamples.specs.Linter.{enters, from_first}
use Rattle.mdexamples.proofs.linter.from_enter.Given as goal

abbrev pub invariant-loop-i : goal.invariant-loop-i
invariant-loop-i l = from_first (enters l.name) (drop l.i l.events) ≡ from_first (enters l.name) l.events
