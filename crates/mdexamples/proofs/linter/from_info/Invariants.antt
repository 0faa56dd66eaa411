use Rattle.std.proofs.Common.{◌≡◌, drop}
use Rattle.mdexamples.specs.Linter.{from_first, is_info_or_end}
use Rattle.mdexamples.proofs.linter.from_info.Given as goal

abbrev pub invariant-loop-i : goal.invariant-loop-i
invariant-loop-i l = from_first is_info_or_end (drop l.i l.events) ≡ from_first is_info_or_end l.events
