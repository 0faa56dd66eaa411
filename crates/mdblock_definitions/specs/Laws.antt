-- What is said of documents with link reference definitions and tables.
use Rattle.std.specs.Prelude.{◌≡◌, ℕ, suc, Bool, false, cond, List, [], ◌∷◌, drop, length}
use Rattle.std.specs.List.{AllByRecursion, flat_map, prefix_len}
use Rattle.markdown_base.specs.declared.configuration.Constructs.{Constructs}
use Rattle.markdown_base.specs.Virtual.{Seat, virtual}
use Rattle.markdown_tokenizer.specs.Text.{Given}
use Rattle.mdconstructs_machines.specs.LineEvents.{lines_in}
use Rattle.mdblock_containers.specs.Blocks as without
use Rattle.mdblock_containers.specs.Letters.{lazy_underlines}
use Rattle.mdblock_leaf_blocks.specs.LeafBlocks.{Line}
use Rattle.mdblock_containers.specs.Rows.{Row, nothing_known, rest_of, rows, rows_by}
use Rattle.mdblock_containers.specs.Skeleton as containers
use Rattle.mdblock_containers.specs.Skeleton.{Part, parts}
use Rattle.mdinline_labels.specs.Tails.{begins_with, is_white}
use Rattle.mdblock_definitions.specs.Blocks.{document_blocks}
use Rattle.mdblock_definitions.specs.Rows as tabled
use Rattle.mdblock_definitions.specs.Rows.{known_after, row_without}
use Rattle.mdblock_definitions.specs.Sections.{Section, lines, sections, sections_in}
use Rattle.mdblock_definitions.specs.Skeleton.{all_rows, labels, letters, skeleton}

-- The skeleton and the letters of a document are those of containers alone, and no label is defined
pub record NothingIsDefined (on : Constructs) (bytes : List ℕ) (seats : List Seat) : Type 0 where
  pub events : skeleton on bytes seats ≡ containers.skeleton on bytes seats
  pub letters_are : letters on seats ≡ lazy_underlines on seats
  pub no_labels : labels on seats ≡ []

-- Definitions can be off. Containers alone have no tables
abbrev pub DefinitionsCanBeOff : Type 0
DefinitionsCanBeOff = (on : Constructs) → on.definition ≡ false → on.gfm_table ≡ false → (bytes : List ℕ) (seats : List Seat) → NothingIsDefined on bytes seats

abbrev pub BlocksCanBeWithout : Type 0
BlocksCanBeWithout = (g : Given) → g.options.constructs.definition ≡ false → g.options.constructs.gfm_table ≡ false → document_blocks g ≡ without.document_blocks g

-- a text begins with `[` behind white space
abbrev pub begins_with_bracket : List ℕ → Bool
begins_with_bracket text = begins_with 91 (drop (prefix_len is_white text) text)

-- a line has no `[` in front, behind its prefixes and white space
abbrev pub HasNoBracket : Row → Type 0
HasNoBracket row = begins_with_bracket (rest_of row) ≡ false

-- Documents whose lines have no `[` in front have no definitions
abbrev pub DefinitionsNeedBrackets : Type 0
DefinitionsNeedBrackets = (on : Constructs) → on.gfm_table ≡ false → (bytes : List ℕ) (seats : List Seat) → AllByRecursion HasNoBracket (rows on (lines_in seats)) → NothingIsDefined on bytes seats

abbrev pub BlocksNeedBrackets : Type 0
BlocksNeedBrackets = (g : Given) → g.options.constructs.gfm_table ≡ false → AllByRecursion HasNoBracket (rows g.options.constructs (lines_in (virtual g.tab g.bytes))) → document_blocks g ≡ without.document_blocks g

-- the lines of a document as they are without tables
abbrev pub rows_without : Constructs → List Line → List Row
rows_without on document = rows_by (row_without on) (known_after on) (record { before = nothing_known on; text = [] }) 1 document

-- a part, cut before and behind definitions alone
abbrev pub cut_at_definitions : Constructs → Part → List Section
cut_at_definitions on part = cond part.first.is_blank (record { part = part; inside = lines false } ∷ []) (sections_in on (suc (length part.more)) false part (all_rows part))

-- Tables can be off: the sections of a document, of which its skeleton, its letters and its labels are made, are those of definitions alone
abbrev pub TablesCanBeOff : Type 0
TablesCanBeOff = (on : Constructs) → on.gfm_table ≡ false → (document : List Line) → sections on (tabled.rows on document) ≡ flat_map (cut_at_definitions on) (parts (rows_without on document))

-- Each line of a document is in exactly one section, and sections are in the order of lines
abbrev pub SectionsHoldLines : Type 0
SectionsHoldLines = (on : Constructs) (rows : List Row) → flat_map (λ s. all_rows s.part) (sections on rows) ≡ rows
