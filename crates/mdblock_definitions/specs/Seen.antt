-- Sections as the code keeps them.
use Rattle.std.specs.Prelude.{◌≡◌, ◌≤◌, ℕ, Bool, true, false, List, [], ◌∷◌, drop, length}
use Rattle.markdown_base.specs.declared.configuration.Constructs.{Constructs}
use Rattle.mdblock_lines.specs.Lines.{line_at}
use Rattle.mdblock_containers.specs.declared.spans.RowAt.{RowAt}
use Rattle.mdblock_containers.specs.Ahead.{AreRows}
use Rattle.mdblock_containers.specs.Rows.{Row, closed, is_paragraph, rest_of, is_table}
use Rattle.mdblock_containers.specs.Views.{leaf_of}
use Rattle.mdinline_labels.specs.Definitions.{definitions}
use Rattle.mdblock_definitions.specs.declared.sections.Found.{Found}
use Rattle.mdblock_definitions.specs.declared.sections.Inside.{Inside as CodeInside}
use Rattle.mdblock_definitions.specs.declared.sections.Inside.TheVariants as seen
use Rattle.mdblock_definitions.specs.declared.sections.Section.{Section as CodeSection}
use Rattle.mdblock_definitions.specs.Held.{HaveTexts}
use Rattle.mdblock_definitions.specs.Laws.{begins_with_bracket}
use Rattle.mdblock_definitions.specs.Sections.{Inside, Section, before_defined, defined, defined_in, lines, paragraph_of, text_in, table}

-- what is in a section
abbrev pub inside_of : CodeInside → Inside
inside_of seen.Lines = lines false
inside_of seen.Behind = lines true
inside_of (seen.Defined ds) = defined ds.items
inside_of seen.Table = table

-- a section: how many further lines it has, and what is in it
pub record IsSection (x : CodeSection) (s : Section) : Type 0 where
  pub further : x.further ≡ length s.part.more
  pub inside : inside_of x.inside ≡ s.inside

abbrev pub AreSections : List CodeSection → List Section → Type 0
AreSections [] [] = Unit {0}
AreSections [] (s ∷ ss) = ⊥
AreSections (x ∷ xs) [] = ⊥
AreSections (x ∷ xs) (s ∷ ss) = IsSection x s × AreSections xs ss

-- a paragraph is open behind a line
abbrev pub is_text_at : RowAt → Bool
is_text_at x = is_paragraph (leaf_of x.row.leaf)

-- a line is in a table, behind its header row
abbrev pub is_in_table_at : RowAt → Bool
is_in_table_at x = is_table (leaf_of x.row.leaf)

-- the first of these lines is
abbrev pub begins_in_table_at : List RowAt → Bool
begins_in_table_at [] = false
begins_in_table_at (x ∷ xs) = is_in_table_at x

-- the first of these lines is text
abbrev pub begins_text_at : List RowAt → Bool
begins_text_at [] = false
begins_text_at (x ∷ xs) = is_text_at x

-- a line, by its text and its prefixes' columns alone
abbrev pub row_by : (t : ℕ) (bytes : List ℕ) → RowAt → Row
row_by t bytes x = record {
  number = x.span.number;
  line = line_at t x.span.number x.span.start (drop x.span.start bytes);
  went_on = [];
  begun = [];
  columns = x.row.columns;
  is_blank = false;
  is_lazy = false;
  stays = false;
  is_left_blank = false;
  leaf = closed;
}

abbrev pub rows_by : (t : ℕ) (bytes : List ℕ) → List RowAt → List Row
rows_by t bytes [] = []
rows_by t bytes (x ∷ xs) = row_by t bytes x ∷ rows_by t bytes xs

-- lines are these, and have their texts
pub record AreThese (t : ℕ) (bytes : List ℕ) (xs : List RowAt) (all : List Row) : Type 0 where
  pub rows : AreRows xs all
  pub texts : HaveTexts t bytes xs all

-- lines are some
pub record AreHeld (t : ℕ) (bytes : List ℕ) (xs : List RowAt) : Type 0 where
  pub all : List Row
  pub are : AreThese t bytes xs all

pub record AreSome (xs : List RowAt) : Type 0 where
  pub all : List Row
  pub are : AreRows xs all

-- the first of these lines has a bracket in front, behind its prefixes and white space
abbrev pub begins_defining : List Row → Bool
begins_defining [] = false
begins_defining (r ∷ rs) = begins_with_bracket (rest_of r)

module _ (on : Constructs) where
  -- the first of some lines in which a paragraph begins with definitions, and these
  pub record IsFound (f : Found) (all : List Row) : Type 0 where
    pub before : f.before ≡ before_defined on false all
    pub lines : f.defined.lines ≡ defined_in on (drop f.before all)
    pub definitions : 1 ≤ f.defined.lines → f.defined.definitions.items ≡ definitions (text_in (paragraph_of (drop f.before all)))
