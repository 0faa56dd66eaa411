use Rattle.std.proofs.Common.{◌≡◌, ◌≤◌, ◌+◌, drop}
use Rattle.std.specs.Prelude.{map}
use Rattle.mdblock_leaf_blocks.specs.HtmlLines.{is_named}
use Rattle.mdblock_lines.specs.Views.{names_size}
use Rattle.mdblock_lines.proofs.html.is_named.Given as goal

-- what is left says whether one is it; and the turns so far were those of the names before
abbrev pub invariant-loop-listed : goal.invariant-loop-listed
invariant-loop-listed g l =
    (is_named (map (λ listed. listed.now) l.names) l.name ≡ is_named (map (λ listed. listed.now) (drop l.listed-index l.names)) l.name)
    × (l.turns + names_size (map (λ listed. listed.now) (drop l.listed-index l.names)) ≤ l.fn.turns + names_size (map (λ listed. listed.now) l.names))
