-- CommonMark's rules of lists, and of block quotes in a row (0.31, 5.1 and 5.3), by the lines of a document with their containers.
use Rattle.std.specs.Prelude.{◌≡◌, ◌≤◌, ◌↔◌, ℕ, ◌-◌, true, List, [], ◌∷◌, ◌++◌, fold, length, slice_get, Some}
use Rattle.markdown_base.specs.declared.configuration.Constructs.{Constructs}
use Rattle.mdblock_leaf_blocks.specs.LeafBlocks.{Line}
use Rattle.mdblock_lines.specs.Containers.{Container, Item, Quote, item, quote}
use Rattle.mdblock_containers.specs.Parts.{open_behind}
use Rattle.mdblock_containers.specs.Prefixes.{containers_of}
use Rattle.mdblock_containers.specs.Rows.{Row}
use Rattle.mdblock_containers.specs.Skeleton.{list_name}
use Rattle.mdblock_definitions.specs.Rows.{rows}
use Rattle.mdblock_definitions.specs.BlankLines.{containers_in}

-- ---- items of a list (5.3)

-- An item is of the same type as the first item of its list. That begins in the line in which the list begins, and stands in as many containers. The
-- two have one marker: a bullet character, or the delimiter behind a number
pub record IsOfItsList (rs : List Row) (depth : ℕ) (i : Item) : Type 0 where
  pub row : Row
  pub first : Item
  pub line : slice_get rs (i.list - 1) ≡ Some row
  pub stands : slice_get (containers_in row) depth ≡ Some (item first)
  pub begins : (first.line ≡ i.list) × (first.list ≡ i.list)
  pub marker : i.marker ≡ first.marker
  pub name : list_name i ≡ list_name first

-- "A list is a sequence of one or more list items of the same type": each item of each line has the marker of its list
abbrev pub ItemsHaveTheMarker : Type 0
ItemsHaveTheMarker =
    (on : Constructs) (ls : List Line) (n depth : ℕ) (row : Row) (i : Item) → slice_get (rows on ls) n ≡ Some row → slice_get (containers_in row) depth ≡ Some (item i)
    → IsOfItsList (rows on ls) depth i

-- So two items have one marker if they are of one list: it began in the same line, and they stand in as many containers
abbrev pub ListsHaveOneMarker : Type 0
ListsHaveOneMarker =
    (on : Constructs) (ls : List Line) (n m depth : ℕ) (row other : Row) (i j : Item) → slice_get (rows on ls) n ≡ Some row → slice_get (rows on ls) m ≡ Some other
    → slice_get (containers_in row) depth ≡ Some (item i) → slice_get (containers_in other) depth ≡ Some (item j) → i.list ≡ j.list → i.marker ≡ j.marker

-- ---- containers in a row

-- The containers that are open behind lines: those of the last line that is neither left blank nor goes on lazily, since such a line ends none
abbrev pub still_open : List Row → List Container
still_open before = fold open_behind [] before

-- A container begins where another one ended, with nothing but blank lines between them: the new one begins in some line, behind the containers that
-- go on there, and the old one is open before that line, behind as many
pub record BeginsBehind (rs : List Row) (old new : Container) : Type 0 where
  pub before : List Row
  pub row : Row
  pub behind : List Row
  pub lines : rs ≡ before ++ row ∷ behind
  pub ended : slice_get (still_open before) (length row.went_on) ≡ Some old
  pub begins : slice_get (containers_of row.begun) 0 ≡ Some new

-- "Changing the bullet or ordered list delimiter starts a new list": of an item and the next one with only blank lines between, the lists are one if
-- the markers are, and only then (5.3). So two lists in a row have different markers
abbrev pub NeighboursDiffer : Type 0
NeighboursDiffer = (on : Constructs) (ls : List Line) (i j : Item) → BeginsBehind (rows on ls) (item i) (item j) → (i.list ≡ j.list) ↔ (i.marker ≡ j.marker)

-- The last of these lines is blank, and at most so many containers go on with it
pub record EndsBlank (depth : ℕ) (before : List Row) : Type 0 where
  pub front : List Row
  pub blank : Row
  pub is_last : before ≡ front ++ blank ∷ []
  pub is_blank : blank.is_left_blank ≡ true
  pub outside : length blank.went_on ≤ depth

-- "A document cannot contain two block quotes in a row unless there is a blank line between them" (5.1): the line before the second is blank, and not
-- in the first
abbrev pub QuotesAreApart : Type 0
QuotesAreApart = (on : Constructs) (ls : List Line) (first second : Quote) (b : BeginsBehind (rows on ls) (quote first) (quote second)) → EndsBlank (length b.row.went_on) b.before
