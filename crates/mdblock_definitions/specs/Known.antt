-- What the code knows before a line, and what it has paid.
use Rattle.std.specs.Prelude.{◌≡◌, ◌⊎◌, ◌≤◌, ℕ, ◌+◌, ◌*◌, ◌&&◌, ◌||◌, not, Bool, true, false, cond, List, [], ◌∷◌, ◌++◌, is_some, length}
use Rattle.markdown_base.specs.declared.configuration.Constructs.{Constructs}
use Rattle.mdblock_leaf_blocks.specs.LineKinds.{is_far, underline_rank}
use Rattle.mdblock_tables.specs.Tables.{is_row, matched}
use Rattle.mdblock_containers.specs.Rows.{Leaf, has_none, is_paragraph, is_table, open_paragraph, open_table}
use Rattle.mdblock_containers.specs.Views.{before_of}
use Rattle.mdblock_definitions.specs.declared.rows.Known.{Known as CodeKnown}
use Rattle.mdblock_definitions.specs.Laws.{begins_with_bracket}
use Rattle.mdblock_definitions.specs.Rows.{Known, is_used_up, last_line}

-- What is held of the text of a paragraph: nothing is defined in one that does not begin with a bracket, and nothing of it is held
abbrev pub held : List ℕ → List ℕ
held text = cond (begins_with_bracket text) text []

-- what is held with a line more, which goes on with the paragraph or begins one
abbrev pub held_behind : (goes_on : Bool) → (text rest : List ℕ) → List ℕ
held_behind goes_on text rest = cond (cond goes_on (not (has_none text)) (begins_with_bracket rest)) (cond goes_on (text ++ 10 ∷ rest) rest) []

-- a text is held, and is of definitions alone
abbrev pub is_held_used_up : List ℕ → Bool
is_held_used_up text = not (has_none text) && is_used_up text

module _ (on : Constructs) where
  -- a line that goes on with a paragraph, whose last line is this header, looks as a delimiter row: whether the paragraph is of definitions alone is asked
  abbrev pub asks_table : (header : List ℕ) → (is_lazy : Bool) → (rest : List ℕ) → Bool
  asks_table header is_lazy rest = not is_lazy && (not (is_far on rest) && is_some (matched header rest))

  -- A line is in a table: `before`, the leaf block that goes on before it; of its paragraph that is held of the text, and this is the last line; `own`, the
  -- leaf block behind the line without tables
  abbrev pub is_in_table : (before : Leaf) → (text header : List ℕ) → (stays is_lazy : Bool) → (own : Leaf) → (rest : List ℕ) → Bool
  is_in_table before text header stays is_lazy own rest =
      on.gfm_table && (stays && (is_paragraph own
      && ((is_paragraph before && (asks_table header is_lazy rest && not (on.definition && is_held_used_up text))) || (is_table before && is_row rest))))

  -- The leaf block behind a line: what would be an underline is text behind definitions alone; and what would be text may be in a table
  abbrev pub leaf_behind : (before : Leaf) → (text header : List ℕ) → (stays is_lazy : Bool) → (own : Leaf) → (rest : List ℕ) → Leaf
  leaf_behind before text header stays is_lazy own rest =
      let here = cond (on.definition && ((stays && is_paragraph before) && (is_some (underline_rank on rest) && is_held_used_up text))) open_paragraph own in
      cond (is_in_table before text header stays is_lazy here rest) open_table here

  -- what is held of the last line of an open paragraph
  abbrev pub last_behind : Leaf → (rest : List ℕ) → List ℕ
  last_behind leaf rest = cond (on.gfm_table && is_paragraph leaf) rest []

  -- what it costs to ask whether that text is of definitions alone
  abbrev pub table_asked : (before : Leaf) → (text header : List ℕ) → (stays is_lazy : Bool) → (own : Leaf) → (rest : List ℕ) → ℕ
  table_asked before text header stays is_lazy own rest =
      cond (on.gfm_table && (stays && (is_paragraph own && (is_paragraph before && asks_table header is_lazy rest)))) (16 * length text + 16) 0

  -- the code knows this before a line
  pub record IsKnown (k : CodeKnown) (known : Known) : Type 0 where
    pub before : before_of k.before ≡ known.before
    pub text : k.text.items ≡ held known.text
    pub last : on.gfm_table ≡ true → is_paragraph known.before.leaf ≡ true → k.last.items ≡ last_line known.text
    pub filled : is_paragraph known.before.leaf ≡ true → has_none known.text ≡ false

-- whatever comes behind a text, it is not of definitions alone
abbrev pub IsNeverUsedUp : List ℕ → Type 0
IsNeverUsedUp text = (more : List ℕ) → is_used_up (text ++ more) ≡ false

-- So many turns were made. A budget is enough for them, and for two looks at the text of the open paragraph; or for one, behind which the
-- paragraph ends
abbrev pub IsKept : (turns budget : ℕ) → List ℕ → Type 0
IsKept turns budget text = (turns + 32 * length text ≤ budget) ⊎ ((turns + 16 * length text ≤ budget) × IsNeverUsedUp text)
