use Rattle.std.proofs.Common.{◌≡◌, ◌++◌, drop}
use Rattle.mdhtml_document.specs.Values.{block_lines}
use Rattle.mdhtml_document.proofs.blocks.block_lines.Given as goal

abbrev pub invariant-loop-i : goal.invariant-loop-i
invariant-loop-i l = l.text.items ++ block_lines l.bytes l.tab l.name (drop l.i l.events) ≡ block_lines l.bytes l.tab l.name l.events
