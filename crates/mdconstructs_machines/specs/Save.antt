-- The machine that saves its place: it passes the first line, makes an attempt there, which fails, goes back to the end of that line, and
-- reads the rest as data.
use Rattle.std.specs.Prelude.{◌∷◌, [], Option, Some, None}
use Rattle.markdown_base.specs.declared.state.TheConstants.Name.{DataStart, TextStart, TextBefore}
use Rattle.markdown_base.specs.declared.state.State.TheVariants.{Next, Ok, Nok}
use Rattle.markdown_tokenizer.specs.declared.waiting.AttemptKind.TheVariants.{Attempt}
use Rattle.markdown_tokenizer.specs.Text.{Given}
use Rattle.markdown_tokenizer.specs.Rules.{Rules}
use Rattle.markdown_tokenizer.specs.Plain.{plain}
use Rattle.mdconstructs_tables.specs.Rows.{consume, choose, Rows, row, a_choice, StateRows, calls, state, Table}
use Rattle.mdconstructs_tables.specs.RowInvariant.{table_rules}
use Rattle.mdconstructs_tables.specs.Tables.{LineByte, line_ending, other, line_byte, counts}
use Rattle.mdconstructs_tables.specs.DataRows.{data_start, data_inside}

-- in the first line: each byte is passed, and after the line ending an attempt begins, which goes on with data after Ok and after Nok
abbrev pub text_start_rows : (previous current : Option LineByte) → Rows Unit Unit
text_start_rows _ None = row [] Ok
text_start_rows _ (Some line_ending) = row (consume ∷ choose Attempt (Next DataStart) (Next DataStart) ∷ []) (Next TextBefore)
text_start_rows _ (Some other) = row (consume ∷ []) (Next TextStart)

abbrev pub text_start : StateRows LineByte Unit Unit
text_start = state TextStart text_start_rows [] (calls 2 1)

-- in the attempt, which fails whatever waits
abbrev pub text_before_rows : (previous current : Option LineByte) → Rows Unit Unit
text_before_rows _ _ = row [] Nok

abbrev pub text_before : StateRows LineByte Unit Unit
text_before = record (state TextBefore text_before_rows [] (calls 0 1)) { needs = a_choice }

abbrev pub save : Table LineByte Unit Unit
save = record { class = line_byte; first = counts; states = text_start ∷ text_before ∷ data_start ∷ data_inside ∷ []; starts = TextStart ∷ [] }

-- its rules: it registers no resolver, makes no edit, and links nothing
abbrev pub save_rules : Given → Rules Unit Unit
save_rules g = plain (table_rules save g)
