-- The machine that reads over bytes. It reads the data of each line, and line endings. Its calls write nothing first.
use Rattle.std.specs.Prelude.{◌∷◌, [], ◌==◌, ℕ, Bool, true, false, not, Option, Some, None}
use Rattle.markdown.specs.declared.event.Name.TheVariants.{Data, LineEnding}
use Rattle.markdown.specs.StateConstants.Name.{DataInside, TextStart}
use Rattle.markdown.specs.declared.state.State.TheVariants.{Next, Retry, Ok}
use Rattle.markdown.specs.Configuration.{Local}
use Rattle.markdown.specs.Text.{Given}
use Rattle.markdown.specs.Rules.{Rules}
use Rattle.markdown.specs.Plain as shape
use Rattle.mdconstructs_tables.specs.Rows.{enter, exit, consume, Rows, row, at_byte, StateRows, calls, state, Table}
use Rattle.mdconstructs_tables.specs.RowInvariant.{table_rules}

-- a byte ends no line
abbrev pub is_text : ℕ → Bool
is_text byte = not (byte == 10)

-- before data, or before a line ending
abbrev pub text_start_rows : (previous current : Option Bool) → Rows Unit Unit
text_start_rows _ None = row [] Ok
text_start_rows _ (Some false) = row (enter LineEnding ∷ consume ∷ exit LineEnding ∷ []) (Next TextStart)
text_start_rows _ (Some true) = row (enter Data ∷ []) (Retry DataInside)

abbrev pub text_start : StateRows Bool Unit Unit
text_start = state TextStart text_start_rows [] (calls 2 1)

-- in data
abbrev pub data_inside_rows : (previous current : Option Bool) → Rows Unit Unit
data_inside_rows _ None = row (exit Data ∷ []) Ok
data_inside_rows _ (Some false) = row (exit Data ∷ []) (Retry TextStart)
data_inside_rows _ (Some true) = row (consume ∷ []) (Next DataInside)

abbrev pub data_inside : StateRows Bool Unit Unit
data_inside = record (state DataInside data_inside_rows (Data ∷ []) (calls 2 1)) { begun = at_byte (λ is. is) }

-- nothing is written first
abbrev pub writes_nothing : Local Unit Unit → Local Unit Unit
writes_nothing local = local

-- the table of both
abbrev pub over : Table Bool Unit Unit
over = record { class = is_text; first = writes_nothing; states = text_start ∷ data_inside ∷ []; starts = TextStart ∷ [] }

-- its rules: it registers no resolver, makes no edit, and links nothing
abbrev pub over_rules : Given → Rules Unit Unit
over_rules g = shape.plain (table_rules over g)
