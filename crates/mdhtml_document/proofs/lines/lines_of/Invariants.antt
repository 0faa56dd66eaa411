use Rattle.std.proofs.Common.{◌≡◌, ◌++◌, drop}
use Rattle.mdhtml_document.specs.Values.{lines_from}
use Rattle.mdhtml_document.proofs.lines.lines_of.Given as goal

abbrev pub invariant-loop-i : goal.invariant-loop-i
invariant-loop-i l = l.text.items ++ lines_from l.bytes l.name l.ending (drop l.i l.events) ≡ lines_from l.bytes l.name l.ending l.events
