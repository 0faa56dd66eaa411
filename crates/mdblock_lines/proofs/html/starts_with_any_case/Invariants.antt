use Rattle.std.proofs.Common.{◌≡◌, ◌≤◌, ◌+◌, drop}
use Rattle.std.specs.Prelude.{map}
use Rattle.mdblock_leaf_blocks.specs.LineWords.{starts_with, lower}
use Rattle.mdblock_lines.proofs.html.starts_with_any_case.Given as goal

abbrev pub invariant-loop-n : goal.invariant-loop-n
invariant-loop-n g l = (starts_with l.what (map lower l.t) ≡ starts_with (drop l.n l.what) (map lower (drop l.n l.t))) × (l.turns ≤ l.fn.turns + l.n)
