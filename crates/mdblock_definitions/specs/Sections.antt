-- The sections of a document: its parts, cut before and behind each table, and before and behind the definitions with which a paragraph begins
-- (CommonMark 0.31, 4.7). "A link
-- reference definition cannot interrupt a paragraph. However, it can directly follow other block elements, such as headings and thematic breaks, and
-- it need not be followed by a blank line."
use Rattle.std.specs.Prelude.{ℕ, zero, suc, ◌-◌, ◌==◌, ◌&&◌, not, nat_le, Bool, true, false, cond, List, [], ◌∷◌, ◌++◌, filter, length, map, take, drop}
use Rattle.std.specs.List.{flat_map, prefix_len}
use Rattle.markdown_base.specs.declared.configuration.Constructs.{Constructs}
use Rattle.mdblock_containers.specs.Rows.{Row, has_none, is_paragraph, rest_of, is_table}
use Rattle.mdblock_containers.specs.Skeleton.{Part, parts}
use Rattle.mdblock_definitions.specs.BlankLines as blank_lines
use Rattle.mdblock_table_marks.specs.TableCuts.{Cut, cut_at_tables}
use Rattle.mdinline_labels.specs.declared.definitions.Definition.{Definition}
use Rattle.mdinline_labels.specs.Definitions.{definitions, rest}

-- the lines of a paragraph from these on, in a stretch: behind each of them it is open
abbrev pub paragraph_of : List Row → List Row
paragraph_of rows = take (prefix_len (λ row. is_paragraph row.leaf) rows) rows

-- The text of lines: what they have behind their prefixes, joined by line feeds
abbrev pub text_in : List Row → List ℕ
text_in [] = []
text_in (row ∷ rows) = rest_of row ++ cond (has_none rows) [] (10 ∷ text_in rows)

-- how many lines a text has
abbrev pub lines_of : List ℕ → ℕ
lines_of [] = 0
lines_of (b ∷ bs) = suc (length (filter (λ c. c == 10) (b ∷ bs)))

-- how many lines have the definitions with which a text begins
abbrev pub lines_defined : List ℕ → ℕ
lines_defined text = lines_of text - lines_of (rest text)

module _ (on : Constructs) where
  -- how many lines have the definitions with which a paragraph begins that begins in the first of these lines
  abbrev pub defined_in : List Row → ℕ
  defined_in rows = cond on.definition (lines_defined (text_in (paragraph_of rows))) 0

  -- how many lines of a stretch come before a paragraph that begins with definitions. `in_paragraph`: a paragraph is open before them
  abbrev pub before_defined : (in_paragraph : Bool) → List Row → ℕ
  before_defined in_paragraph [] = 0
  before_defined in_paragraph (row ∷ rows) =
      cond (not in_paragraph && nat_le 1 (defined_in (row ∷ rows))) 0 (suc (before_defined (is_paragraph row.leaf) rows))

-- What is in a section: a blank line, or lines that leaf blocks are read from, of which the first may be text directly behind definitions;
-- definitions; or a table
pub data Inside : Type 0 where
  lines : (is_behind : Bool) → Inside
  defined : List Definition → Inside
  table : Inside

-- A section: a part of a document, and what is in it
pub record Section : Type 0 where
  pub part : Part
  pub inside : Inside

-- a part in the same spans
abbrev pub in_same : Part → Part → Part
in_same around part = record part { frames = around.frames; stands = around.stands }

-- the first of these lines is text: it goes on with the paragraph of the lines before
abbrev pub begins_text : List Row → Bool
begins_text [] = false
begins_text (row ∷ rows) = is_paragraph row.leaf

-- sections of lines, of which the first may be text directly behind definitions
abbrev pub sections_of : (is_behind : Bool) → List Part → List Section
sections_of is_behind [] = []
sections_of is_behind (part ∷ more) = record { part = part; inside = lines is_behind } ∷ map (λ p. record { part = p; inside = lines false }) more

-- lines of a part without definitions: blank lines, and stretches
abbrev pub undefined : (is_behind : Bool) → Part → List Row → List Section
undefined is_behind around rows = sections_of (is_behind && begins_text rows) (map (in_same around) (blank_lines.parts rows))

-- lines of a part with these definitions
abbrev pub defining : List Definition → Part → List Row → List Section
defining ds around [] = []
defining ds around (row ∷ rows) = record { part = record around { first = row; more = rows }; inside = defined ds } ∷ []

-- lines of a part that are a table
abbrev pub tabled : Part → List Row → List Section
tabled around [] = []
tabled around (row ∷ rows) = record { part = record around { first = row; more = rows }; inside = table } ∷ []

-- a line is the delimiter row of a table, or a row behind that
abbrev pub is_in_table : Row → Bool
is_in_table row = is_table row.leaf

module _ (on : Constructs) where
  -- lines of a part, cut into so many pieces at most. `is_behind`: definitions come directly before them
  abbrev pub sections_in : (bound : ℕ) → (is_behind : Bool) → Part → List Row → List Section
  sections_in zero is_behind around rows = []
  sections_in (suc bound) is_behind around [] = []
  sections_in (suc bound) is_behind around (row ∷ rows) =
      let all = row ∷ rows in
      let n = before_defined on false all in
      let behind = drop n all in
      let d = defined_in on behind in
      undefined is_behind around (take n all)
      ++ (defining (definitions (text_in (paragraph_of behind))) around (take d behind) ++ sections_in bound true around (drop d behind))

  -- lines of a part that are a table, or without one
  abbrev pub sections_of_cut : Part → Cut → List Section
  sections_of_cut around c = cond c.is_table (tabled around c.rows) (sections_in (length c.rows) false around c.rows)

  -- a blank line is not cut
  abbrev pub cut : Part → List Section
  cut part =
      cond part.first.is_blank (record { part = part; inside = lines false } ∷ [])
      (flat_map (sections_of_cut part) (cut_at_tables is_in_table (suc (length part.more)) (part.first ∷ part.more)))

  -- The sections of a document, by its lines
  abbrev pub sections : List Row → List Section
  sections all = flat_map cut (parts all)
