-- The machine that peeks: it looks at the whole text first, goes back, and then reads it as data.
use Rattle.std.specs.Prelude.{◌∷◌, [], Option, Some, None}
use Rattle.markdown_base.specs.declared.state.TheConstants.Name.{DataStart, TextStart, TextBefore}
use Rattle.markdown_base.specs.declared.state.State.TheVariants.{Next, Retry, Nok}
use Rattle.markdown_tokenizer.specs.declared.waiting.AttemptKind.TheVariants.{Check}
use Rattle.markdown_tokenizer.specs.Text.{Given}
use Rattle.markdown_tokenizer.specs.Rules.{Rules}
use Rattle.markdown_tokenizer.specs.Plain.{plain}
use Rattle.mdconstructs_tables.specs.Rows.{consume, choose, Rows, row, a_choice, StateRows, calls, state, Table}
use Rattle.mdconstructs_tables.specs.RowInvariant.{table_rules}
use Rattle.mdconstructs_tables.specs.Tables.{LineByte, line_byte, counts}
use Rattle.mdconstructs_tables.specs.DataRows.{data_start, data_inside}

-- before the look: a check begins, which goes on with data after Ok and after Nok
abbrev pub text_start_rows : (previous current : Option LineByte) → Rows Unit Unit
text_start_rows _ _ = row (choose Check (Next DataStart) (Next DataStart) ∷ []) (Retry TextBefore)

abbrev pub text_start : StateRows LineByte Unit Unit
text_start = state TextStart text_start_rows [] (calls 3 3)

-- in the look: each byte is passed, and at the end the look fails
abbrev pub text_before_rows : (previous current : Option LineByte) → Rows Unit Unit
text_before_rows _ None = row [] Nok
text_before_rows _ (Some _) = row (consume ∷ []) (Next TextBefore)

abbrev pub text_before : StateRows LineByte Unit Unit
text_before = record (state TextBefore text_before_rows [] (calls 1 1)) { needs = a_choice }

abbrev pub peek : Table LineByte Unit Unit
peek = record { class = line_byte; first = counts; states = text_start ∷ text_before ∷ data_start ∷ data_inside ∷ []; starts = TextStart ∷ [] }

-- its rules: it registers no resolver, makes no edit, and links nothing
abbrev pub peek_rules : Given → Rules Unit Unit
peek_rules g = plain (table_rules peek g)
