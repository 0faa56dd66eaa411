use Rattle.std.proofs.Common.{◌≡◌, ◌++◌, drop}
use Rattle.mdhtml_document.specs.Values.{lines_from}
use Rattle.mdhtml_document.proofs.lines.one_of.Given as goal

abbrev pub invariant-loop-i : goal.invariant-loop-i
invariant-loop-i l = l.text ++ lines_from l.bytes l.name 32 (drop l.i l.events) ≡ lines_from l.bytes l.name 32 l.events
