-- Which events begin the text of a cell, and that they stand apart from the chains that are there.
use Rattle.std.specs.Prelude.{◌≡◌, ℕ, zero, suc, ◌+◌, ◌<◌, ◌≤◌, Bool, true, false, List, [], ◌∷◌, None, Some}
use Rattle.markdown_base.specs.declared.event.Event.{Event}
use Rattle.markdown_edits.specs.Links.{next_of}
use Rattle.mdblock_leaf_blocks.specs.LeafEvents.{Mark}
use Rattle.mdblock_table_marks.specs.Cells.{enters_cell}

-- the event at an index comes directly behind the enter of the text of a cell. `is_cell`: so does the first
abbrev pub is_cell_at : (is_cell : Bool) → List Event → ℕ → Bool
is_cell_at b [] k = false
is_cell_at b (e ∷ es) zero = b
is_cell_at b (e ∷ es) (suc k) = is_cell_at (enters_cell e) es k

-- such an event has no link
abbrev pub CellsAreFree : (is_cell : Bool) → List Event → Type 0
CellsAreFree b [] = Unit {0}
CellsAreFree b (e ∷ es) = (b ≡ true → e.link ≡ None) × CellsAreFree (enters_cell e) es

-- none comes between two chunks of a chain
abbrev pub NoCellInGaps : List Event → Type 0
NoCellInGaps es = (k d : ℕ) → next_of es k ≡ Some d → (m : ℕ) → k + 2 ≤ m → m < d → is_cell_at false es m ≡ false

-- The same of marks. `waits`: the last chunk waits for the next
abbrev pub AreApart : (is_cell waits : Bool) → List Mark → Type 0
AreApart b w [] = Unit {0}
AreApart b w ((e, None) ∷ ms) = (w ≡ true → enters_cell e ≡ false) × AreApart (enters_cell e) w ms
AreApart b w ((e, Some k) ∷ ms) = (b ≡ false) × AreApart (enters_cell e) k.has_next ms

-- no mark enters the text of a cell
abbrev pub NoCells : List Mark → Type 0
NoCells [] = Unit {0}
NoCells ((e, c) ∷ ms) = (enters_cell e ≡ false) × NoCells ms

-- the last mark does, or, if there is none, so did the one before
abbrev pub ends_entering : (before : Bool) → List Mark → Bool
ends_entering b [] = b
ends_entering b ((e, c) ∷ ms) = ends_entering (enters_cell e) ms
