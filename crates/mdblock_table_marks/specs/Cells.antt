-- The texts of cells are texts of their own: "arbitrary text, in which inlines are parsed" (GFM 0.29, 4.10). It changes links alone: no event comes,
-- goes or moves.
use Rattle.std.specs.Prelude.{◌≡◌, ◌&&◌, Bool, true, false, cond, List, [], ◌∷◌, None, Some}
use Rattle.markdown_base.specs.declared.configuration.Constructs.{Constructs}
use Rattle.markdown_base.specs.declared.event.Content.TheVariants as content
use Rattle.markdown_base.specs.declared.event.Event.{Event}
use Rattle.markdown_base.specs.declared.event.Kind.TheVariants.{Enter, Exit}
use Rattle.markdown_base.specs.declared.event.Name.TheVariants as name
use Rattle.markdown_base.specs.Events.{is_enter, same_name}

-- an event enters the text of a cell: the data of the text comes next
abbrev pub enters_cell : Event → Bool
enters_cell e = is_enter e.kind && same_name e.name name.GfmTableCellText

-- an event begins a chain of its own, which is read as text
abbrev pub as_text : Event → Event
as_text e = record e { link = Some (record { previous = None; next = None; content = content.Text }) }

-- The data of each cell's text is a chain. `is_cell`: the text of a cell was entered directly before
abbrev pub celled : (is_cell : Bool) → List Event → List Event
celled is_cell [] = []
celled is_cell (e ∷ es) = cond is_cell (as_text e) e ∷ celled (enters_cell e) es

-- where tables are on
abbrev pub with_cells : Constructs → List Event → List Event
with_cells on events = cond on.gfm_table (celled false events) events

-- a span of data, with nothing in it, comes first
abbrev pub BeginsWithData : List Event → Type 0
BeginsWithData [] = ⊥
BeginsWithData (e ∷ []) = ⊥
BeginsWithData (e ∷ f ∷ es) = (e.kind ≡ Enter) × (e.name ≡ name.Data) × (f.kind ≡ Exit) × (f.name ≡ name.Data)

-- behind the enter of each cell's text
abbrev pub CellsHaveData : List Event → Type 0
CellsHaveData [] = Unit {0}
CellsHaveData (e ∷ es) = (enters_cell e ≡ true → BeginsWithData es) × CellsHaveData es
