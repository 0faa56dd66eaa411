-- Examples of tables in the lines of a document, computed from the definitions.
use Rattle.std.specs.Prelude.{◌≡◌, ℕ, suc, refl, codes, length, map, List, [], ◌∷◌, false}
use Rattle.markdown_base.specs.declared.configuration.Constructs.{Constructs}
use Rattle.markdown_base.specs.declared.event.Name.{Name}
use Rattle.markdown_base.specs.declared.event.Name.TheVariants.{Data, GfmTable, GfmTableCell, GfmTableCellDivider, GfmTableCellText, GfmTableDelimiterCell, GfmTableDelimiterCellValue, GfmTableDelimiterFiller, GfmTableDelimiterRow, GfmTableHead, GfmTableRow, LineEnding, SpaceOrTab}
use Rattle.markdown_base.specs.Presets.{default_constructs, gfm_constructs}
use Rattle.markdown_base.specs.Virtual.{virtual}
use Rattle.mdconstructs_machines.specs.LineEvents.{lines_in}
use Rattle.mdblock_containers.specs.Rows.{Leaf, closed, open_paragraph, open_table}
use Rattle.mdblock_definitions.specs.Rows.{rows}
use Rattle.mdblock_definitions.specs.Sections.{Inside, lines, table}
use Rattle.mdblock_definitions.specs.Skeleton.{sections_in_seats, skeleton}

-- the leaf block that may go on behind each line
abbrev leaves : Constructs → List ℕ → List Leaf
leaves on document = map (λ r. r.leaf) (rows on (lines_in (virtual 4 document)))

-- sections: how many lines, and what is in them
abbrev told : Constructs → List ℕ → List (ℕ × Inside)
told on document = map (λ s. (suc (length s.part.more), s.inside)) (sections_in_seats on (virtual 4 document))

-- names and places of the events of a skeleton
abbrev events : Constructs → List ℕ → List (Name × ℕ)
events on document = map (λ e. (e.name, e.point.index)) (skeleton on document (virtual 4 document))

-- "The table is broken at the first empty line"
blank : leaves gfm_constructs (codes "| a |\n| - |\n| b |\n\n| c |\n") ≡ open_paragraph ∷ open_table ∷ open_table ∷ closed ∷ open_paragraph ∷ []
blank = refl

-- tables are off
off : leaves default_constructs (codes "| a |\n| - |\n| b |\n") ≡ open_paragraph ∷ open_paragraph ∷ open_paragraph ∷ []
off = refl

-- a thematic break, though behind a paragraph it would underline a heading
interrupted : leaves gfm_constructs (codes "| a |\n| - |\n---\n") ≡ open_paragraph ∷ open_table ∷ closed ∷ []
interrupted = refl

-- an item, though it would begin none in a paragraph
item : leaves gfm_constructs (codes "| a |\n| - |\n2. b\n") ≡ open_paragraph ∷ open_table ∷ open_paragraph ∷ []
item = refl

-- indented code
far : leaves gfm_constructs (codes "| a |\n| - |\n    b\n") ≡ open_paragraph ∷ open_table ∷ closed ∷ []
far = refl

-- a paragraph outside of the quote
lazy-row : leaves gfm_constructs (codes "> | a |\n> | - |\n| b |\n") ≡ open_paragraph ∷ open_table ∷ open_paragraph ∷ []
lazy-row = refl

-- a delimiter row is not lazy
lazy-delimiters : leaves gfm_constructs (codes "> | a |\n| - |\n") ≡ open_paragraph ∷ open_paragraph ∷ []
lazy-delimiters = refl

-- definitions are no header
used-up : leaves gfm_constructs (codes "[a]: /u\n:-\n") ≡ open_paragraph ∷ open_paragraph ∷ []
used-up = refl

-- what would underline a heading is a row
underline : leaves gfm_constructs (codes "x\n| a |\n| - |\n===\n") ≡ open_paragraph ∷ open_paragraph ∷ open_table ∷ open_table ∷ []
underline = refl

-- a pipe alone has no cell, and begins a paragraph
pipe : leaves gfm_constructs (codes "| a |\n| - |\n|\nb\n") ≡ open_paragraph ∷ open_table ∷ open_paragraph ∷ open_paragraph ∷ []
pipe = refl

-- "The header row must match the delimiter row in the number of cells"
counts : leaves gfm_constructs (codes "| a | b |\n| - |\n") ≡ open_paragraph ∷ open_paragraph ∷ []
counts = refl

-- an escaped pipe divides no cells
escaped : leaves gfm_constructs (codes "| a \\| b |\n| - |\n") ≡ open_paragraph ∷ open_table ∷ []
escaped = refl

-- the lines before a table, the table, and the lines behind it
cut-apart : told gfm_constructs (codes "x\n| a |\n| - |\n| b |\n---\ny\n") ≡ (1, lines false) ∷ (3, table) ∷ (2, lines false) ∷ []
cut-apart = refl

-- no table
uncut : told gfm_constructs (codes "x\n| a |\n") ≡ (2, lines false) ∷ []
uncut = refl

-- the events of a table
all-events : events gfm_constructs (codes "| a |\n| - |\n") ≡ (GfmTable, 0) ∷ (GfmTableHead, 0) ∷ (GfmTableRow, 0) ∷ (GfmTableCell, 0) ∷ (GfmTableCellDivider, 0) ∷ (GfmTableCellDivider, 1) ∷ (SpaceOrTab, 1) ∷ (SpaceOrTab, 2) ∷ (GfmTableCellText, 2) ∷ (Data, 2) ∷ (Data, 3) ∷ (GfmTableCellText, 3) ∷ (SpaceOrTab, 3) ∷ (SpaceOrTab, 4) ∷ (GfmTableCellDivider, 4) ∷ (GfmTableCellDivider, 5) ∷ (GfmTableCell, 5) ∷ (GfmTableRow, 5) ∷ (LineEnding, 5) ∷ (LineEnding, 6) ∷ (GfmTableDelimiterRow, 6) ∷ (GfmTableDelimiterCell, 6) ∷ (GfmTableCellDivider, 6) ∷ (GfmTableCellDivider, 7) ∷ (SpaceOrTab, 7) ∷ (SpaceOrTab, 8) ∷ (GfmTableDelimiterCellValue, 8) ∷ (GfmTableDelimiterFiller, 8) ∷ (GfmTableDelimiterFiller, 9) ∷ (GfmTableDelimiterCellValue, 9) ∷ (SpaceOrTab, 9) ∷ (SpaceOrTab, 10) ∷ (GfmTableCellDivider, 10) ∷ (GfmTableCellDivider, 11) ∷ (GfmTableDelimiterCell, 11) ∷ (GfmTableDelimiterRow, 11) ∷ (GfmTableHead, 11) ∷ (GfmTable, 11) ∷ (LineEnding, 11) ∷ (LineEnding, 12) ∷ []
all-events = refl

-- in a quote and in an item
quoted : leaves gfm_constructs (codes "> | a |\n> | - |\n> | b |\n\nx\n") ≡ open_paragraph ∷ open_table ∷ open_table ∷ closed ∷ open_paragraph ∷ []
quoted = refl

listed : told gfm_constructs (codes "- x\n  | a |\n  | - |\n  y\n") ≡ (1, lines false) ∷ (3, table) ∷ []
listed = refl
