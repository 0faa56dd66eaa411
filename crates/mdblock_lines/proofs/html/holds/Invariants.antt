use Rattle.std.proofs.Common.{◌≡◌, ◌≤◌, ◌+◌, ◌*◌, drop}
use Rattle.mdblock_leaf_blocks.specs.LineWords.{holds}
use Rattle.mdblock_lines.proofs.html.holds.Given as goal

abbrev pub invariant-loop-n : goal.invariant-loop-n
invariant-loop-n g l = (holds l.what l.t ≡ holds l.what (drop l.n l.t)) × (l.turns ≤ l.fn.turns + 12 * l.n)
