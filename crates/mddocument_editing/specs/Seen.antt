-- Inner: what is seen of containers, where a rest is looked for.
use Rattle.std.specs.Prelude.{ℕ, List, [], ◌∷◌, Option, Some, None}
use Rattle.mdblock_lines.specs.Containers.{Container, footnote, item, quote}

-- the marker of the first of open containers, if it is a list item
abbrev pub first_marker : List Container → Option ℕ
first_marker [] = None
first_marker (quote q ∷ cs) = None
first_marker (item i ∷ cs) = Some i.marker
first_marker (footnote f ∷ cs) = None
