use Rattle.std.proofs.Common.{◌≡◌, ◌≤◌, ◌+◌, ◌*◌, drop}
use Rattle.std.specs.Prelude.{map}
use Rattle.mdblock_leaf_blocks.specs.LineWords.{holds, lower}
use Rattle.mdblock_lines.proofs.html.holds_any_case.Given as goal

abbrev pub invariant-loop-n : goal.invariant-loop-n
invariant-loop-n g l = (holds l.what (map lower l.t) ≡ holds l.what (map lower (drop l.n l.t))) × (l.turns ≤ l.fn.turns + 12 * l.n)
