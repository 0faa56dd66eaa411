-- The lines of a document with their containers, where paragraphs may begin with link reference definitions (CommonMark 0.31, 4.7), and tables may end
-- them (GFM 0.29, 4.10). Of the lines before, one thing more is known: the text of the paragraph that is open, as definitions alone are no text of a
-- heading and no header row.
use Rattle.std.specs.Prelude.{ℕ, ◌==◌, ◌&&◌, ◌||◌, not, Bool, cond, List, [], ◌∷◌, ◌++◌, is_some, reverse, take}
use Rattle.std.specs.List.{prefix_len}
use Rattle.markdown_base.specs.declared.configuration.Constructs.{Constructs}
use Rattle.mdblock_leaf_blocks.specs.LeafBlocks.{Line}
use Rattle.mdblock_leaf_blocks.specs.LineKinds.{is_far, underline_rank}
use Rattle.mdblock_tables.specs.Tables.{is_row, matched}
use Rattle.mdblock_containers.specs.Rows.{Before, Row, has_none, is_paragraph, is_table, nothing_known, open_paragraph, open_table, rest_of, rows_by}
use Rattle.mdblock_containers.specs.Rows as without
use Rattle.mdinline_labels.specs.Definitions.{rest}

-- What is known before a line: what is known without definitions; and the text of the open paragraph, if one is open: what its lines have behind
-- their prefixes, joined by line feeds
pub record Known : Type 0 where
  pub before : Before
  pub text : List ℕ

-- "A link reference definition does not correspond to a structural element of a document" (4.7): nothing is left of a text of definitions alone
abbrev pub is_used_up : List ℕ → Bool
is_used_up text = has_none (rest text)

-- a line goes on with the stretch of lines before, in which a paragraph is open
abbrev pub is_behind_text : Before → Row → Bool
is_behind_text b row = row.stays && is_paragraph b.leaf

-- the last line of a text
abbrev pub last_line : List ℕ → List ℕ
last_line t = reverse (take (prefix_len (λ b. not (b == 10)) (reverse t)) (reverse t))

module _ (on : Constructs) where
  -- What would be an underline makes no heading of definitions alone: "The lines of text must be such that, were they not followed by the setext
  -- heading underline, they would be interpreted as a paragraph" (4.3). So it is text, and the paragraph goes on
  abbrev pub underlines_nothing : Known → Row → Bool
  underlines_nothing k row = on.definition && (is_behind_text k.before row && (is_some (underline_rank on (rest_of row)) && is_used_up k.text))

  -- A line behind text is the delimiter row of a table: it goes on with the paragraph, not lazily; it stands less than four columns to the right; and
  -- the line before, which is no end of a definition, "must match" it "in the number of cells"
  abbrev pub begins_table : Known → Row → Bool
  begins_table k row = (not row.is_lazy && (not (is_far on (rest_of row)) && is_some (matched (last_line k.text) (rest_of row)))) && not (on.definition && is_used_up k.text)

  -- A line is in a table, as its delimiter row or a row behind that: "The table is broken at the first empty line, or beginning of another block-level
  -- structure". A line without a cell, a pipe alone, begins a paragraph
  abbrev pub is_row_of_table : Known → Row → Bool
  is_row_of_table k row =
      on.gfm_table && (row.stays && (is_paragraph row.leaf && ((is_paragraph k.before.leaf && begins_table k row) || (is_table k.before.leaf && is_row (rest_of row)))))

  -- a line, by what is known before it, without tables
  abbrev pub row_without : Known → (number : ℕ) → Line → Row
  row_without k number line = let row = without.row_of on k.before number line in record row { leaf = cond (underlines_nothing k row) open_paragraph row.leaf }

  -- a line, by what is known before it
  abbrev pub row_of : Known → (number : ℕ) → Line → Row
  row_of k number line = let row = row_without k number line in record row { leaf = cond (is_row_of_table k row) open_table row.leaf }

-- the text of the open paragraph behind a line
abbrev pub text_after : Known → Row → List ℕ
text_after k row = cond (is_paragraph row.leaf) (cond (is_behind_text k.before row) (k.text ++ 10 ∷ rest_of row) (rest_of row)) []

module _ (on : Constructs) where
  -- what is known behind a line
  abbrev pub known_after : Known → Row → Known
  known_after k row = record { before = without.known_after on k.before row; text = text_after k row }

  abbrev pub rows_from : Known → (number : ℕ) → List Line → List Row
  rows_from = rows_by (row_of on) known_after

  -- The lines of a document, with their containers
  abbrev pub rows : List Line → List Row
  rows lines = rows_from (record { before = nothing_known on; text = [] }) 1 lines
