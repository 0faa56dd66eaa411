use Rattle.std.proofs.Common.{◌≡◌, ◌≤◌, ◌+◌, drop}
use Rattle.mdblock_leaf_blocks.specs.LineWords.{starts_with}
use Rattle.mdblock_lines.proofs.html.starts_with.Given as goal

abbrev pub invariant-loop-n : goal.invariant-loop-n
invariant-loop-n g l = (starts_with l.what l.t ≡ starts_with (drop l.n l.what) (drop l.n l.t)) × (l.turns ≤ l.fn.turns + l.n)
