-- Reading data: each line is data, with line endings between them. Machines with choices end in it.
use Rattle.std.specs.Prelude.{◌∷◌, [], Option, Some, None}
use Rattle.markdown_base.specs.declared.event.Name.TheVariants.{Data, LineEnding}
use Rattle.markdown_base.specs.declared.state.TheConstants.Name.{DataStart, DataInside}
use Rattle.markdown_base.specs.declared.state.State.TheVariants.{Next, Retry, Ok}
use Rattle.mdconstructs_tables.specs.Rows.{enter, exit, consume, Rows, row, at_byte, StateRows, calls, state}
use Rattle.mdconstructs_tables.specs.Tables.{LineByte, line_ending, other, is_other}

-- before a line
abbrev pub data_start_rows : {R D : Type 0} → (previous current : Option LineByte) → Rows R D
data_start_rows _ None = row [] Ok
data_start_rows _ (Some line_ending) = row (enter LineEnding ∷ consume ∷ exit LineEnding ∷ []) (Next DataStart)
data_start_rows _ (Some other) = row (enter Data ∷ []) (Retry DataInside)

abbrev pub data_start : {R D : Type 0} → StateRows LineByte R D
data_start = state DataStart data_start_rows [] (calls 2 1)

-- in a line
abbrev pub data_inside_rows : {R D : Type 0} → (previous current : Option LineByte) → Rows R D
data_inside_rows _ None = row (exit Data ∷ []) Ok
data_inside_rows _ (Some line_ending) = row (exit Data ∷ []) (Retry DataStart)
data_inside_rows _ (Some other) = row (consume ∷ []) (Next DataInside)

abbrev pub data_inside : {R D : Type 0} → StateRows LineByte R D
data_inside = record (state DataInside data_inside_rows (Data ∷ []) (calls 2 1)) { begun = at_byte is_other }
