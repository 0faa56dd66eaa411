use Rattle.std.proofs.Common.{◌≡◌, ◌≤◌, ◌+◌, ◌++◌, length, drop}
use Rattle.mdblock_lines.specs.Lines.{expanded}
use Rattle.mdblock_lines.proofs.places.expand.Given as goal

abbrev pub invariant-loop-byte : goal.invariant-loop-byte
invariant-loop-byte g l =
    (l.line.items ++ expanded l.tab (length l.line.items + 1) (drop l.byte-index l.text) ≡ expanded l.tab 1 l.text)
    × (l.turns ≤ l.fn.turns + l.byte-index)
