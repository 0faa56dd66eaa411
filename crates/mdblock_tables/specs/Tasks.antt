-- Task list items (GFM 0.29, 5.3 "Task list items (extension)"): the check at the front of the first line of a paragraph that is the first block of an
-- item. A line is its virtual bytes behind prefixes, without its line ending.
use Rattle.std.specs.Prelude.{ℕ, ◌==◌, ◌&&◌, ◌||◌, not, nat_le, nat_lt, Bool, true, false, cond, List, [], ◌∷◌, length, Option, Some, None}
use Rattle.markdown_base.specs.declared.event.Name.{Name}
use Rattle.markdown_base.specs.declared.event.Name.TheVariants as name
use Rattle.mdconstructs_tables.specs.Breaks.{is_white}
use Rattle.mdblock_leaf_blocks.specs.LineKinds.{indent, unindented}
use Rattle.mdblock_tables.specs.declared.tasks.Check.{Check}
use Rattle.mdblock_tables.specs.Pieces.{Pieces, nothing, leaf, span}

-- "either a whitespace character or the letter x in either lowercase or uppercase"
abbrev pub is_value : ℕ → Bool
is_value b = is_white b || ((b == 120) || (b == 88))

-- "at least one whitespace character before any other content"
abbrev pub goes_on : List ℕ → Bool
goes_on t = nat_le 1 (indent t) && nat_lt (indent t) (length t)

-- "A task list item marker consists of an optional number of spaces, a left bracket ([), either a whitespace character or the letter x .., and then a
-- right bracket (])": whether the marker that comes first is checked
abbrev pub marker_at : List ℕ → Option Bool
marker_at [] = None
marker_at (a ∷ []) = None
marker_at (a ∷ b ∷ []) = None
marker_at (a ∷ b ∷ c ∷ more) = cond ((a == 91) && (is_value b && ((c == 93) && goes_on more))) (Some (not (is_white b))) None

-- The check with which a line begins, if it begins with one
abbrev pub check_at : List ℕ → Option Check
check_at line = elim (marker_at (unindented line)) [ None ↦ None | Some is_checked ↦ Some (record { columns = indent line; is_checked = is_checked }) ]

abbrev pub value_name : (is_checked : Bool) → Name
value_name true = name.GfmTaskListItemValueChecked
value_name false = name.GfmTaskListItemValueUnchecked

-- A check as pieces, with the white space before it
abbrev pub check_pieces : Check → Pieces
check_pieces check =
    leaf name.SpaceOrTab check.columns
    (span name.GfmTaskListItemCheck (leaf name.GfmTaskListItemMarker 1 (leaf (value_name check.is_checked) 1 (leaf name.GfmTaskListItemMarker 1 nothing))) nothing)
