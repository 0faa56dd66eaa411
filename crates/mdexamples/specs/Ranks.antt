-- The ranks of headings: those that the linter finds are those of the headings of the document.
use Rattle.std.specs.List.{flat_map}
use Rattle.std.specs.Prelude.{◌≡◌, map}
use Rattle.markdown.specs.Text.{Given, IsDocument}
use Rattle.mdconstructs.specs.DocumentEvents.{document_events}
use Rattle.mdconstructs.specs.Ranks.{leaf_blocks_of, rank_of}
use Rattle.mdexamples.specs.Linter.{headings}

-- Law: so it is of each document, in order
abbrev pub HeadingsHaveTheirRanks : Type 0
HeadingsHaveTheirRanks = (g : Given) → IsDocument g → map (λ heading. heading.rank) (headings g.bytes (document_events g)) ≡ flat_map rank_of (leaf_blocks_of g)
