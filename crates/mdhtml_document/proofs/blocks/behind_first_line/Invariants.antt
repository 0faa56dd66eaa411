use Rattle.std.proofs.Common.{◌≡◌, drop}
use Rattle.mdhtml_document.specs.Values.{behind_first_line}
use Rattle.mdhtml_document.proofs.blocks.behind_first_line.Given as goal

abbrev pub invariant-loop-i : goal.invariant-loop-i
invariant-loop-i l = behind_first_line (drop l.i l.events) ≡ behind_first_line l.events
