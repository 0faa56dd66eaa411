-- The machine that goes round through an attempt that saves nothing: at each byte it tries what comes after it, goes on with the state that
-- tried, and has nothing to go back to.
use Rattle.std.specs.Prelude.{◌∷◌, [], Option, Some, None}
use Rattle.markdown.specs.StateConstants.Name.{DataInside, TextStart}
use Rattle.markdown.specs.declared.state.State.TheVariants.{Next, Ok, Nok}
use Rattle.markdown_tokenizer.specs.declared.waiting.AttemptKind.TheVariants.{Attempt}
use Rattle.markdown.specs.Text.{Given}
use Rattle.markdown.specs.Rules.{Rules}
use Rattle.markdown.specs.Plain as shape
use Rattle.mdconstructs_tables.specs.Rows.{consume, choose, Rows, row, a_choice_for_ok, StateRows, calls, state, Table}
use Rattle.mdconstructs_tables.specs.RowInvariant.{table_rules}
use Rattle.mdconstructs_tables.specs.Tables.{LineByte, line_byte, counts}

-- at a byte what comes after it is tried; after Ok this goes on, and Nok is never returned
abbrev pub text_start_rows : (previous current : Option LineByte) → Rows Unit Unit
text_start_rows _ None = row [] Ok
text_start_rows _ (Some _) = row (choose Attempt (Next TextStart) Nok ∷ consume ∷ []) (Next DataInside)

-- its state
abbrev pub text_start : StateRows LineByte Unit Unit
text_start = state TextStart text_start_rows [] (calls 2 1)

-- what was tried is there at once
abbrev pub data_inside_rows : (previous current : Option LineByte) → Rows Unit Unit
data_inside_rows _ _ = row [] Ok

-- its state
abbrev pub data_inside : StateRows LineByte Unit Unit
data_inside = record (state DataInside data_inside_rows [] (calls 0 1)) { needs = a_choice_for_ok }

-- the table of both
abbrev pub looping : Table LineByte Unit Unit
looping = record { class = line_byte; first = counts; states = text_start ∷ data_inside ∷ []; starts = TextStart ∷ [] }

-- its rules: it registers no resolver, makes no edit, and links nothing
abbrev pub looping_rules : Given → Rules Unit Unit
looping_rules g = shape.plain (table_rules looping g)
