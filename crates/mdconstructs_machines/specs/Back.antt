-- The machine that goes back: it reads the first line as data, looks over the next line, goes back, and reads the rest as one more data.
use Rattle.std.specs.Prelude.{◌∷◌, [], Option, Some, None}
use Rattle.markdown_base.specs.declared.event.Name.TheVariants.{Data}
use Rattle.markdown_base.specs.declared.state.TheConstants.Name.{TextStart, TextBefore, DataStart, DataInside, StringStart, DataAtBreak, StringBefore}
use Rattle.markdown_base.specs.declared.state.State.TheVariants.{Next, Retry, Ok, Nok}
use Rattle.markdown_tokenizer.specs.declared.waiting.AttemptKind.TheVariants.{Check}
use Rattle.markdown_tokenizer.specs.Text.{Given}
use Rattle.markdown_tokenizer.specs.Rules.{Rules}
use Rattle.markdown_tokenizer.specs.Plain.{plain}
use Rattle.mdconstructs_tables.specs.Rows.{enter, exit, consume, choose, Rows, row, at_byte, at_a_byte, a_choice, StateRows, calls, state, Table}
use Rattle.mdconstructs_tables.specs.RowInvariant.{table_rules}
use Rattle.mdconstructs_tables.specs.Tables.{LineByte, line_ending, other, line_byte, is_any, counts}

-- before the text: data begins at its first byte
abbrev pub text_start_rows : (previous current : Option LineByte) → Rows Unit Unit
text_start_rows _ None = row [] Ok
text_start_rows _ (Some _) = row (enter Data ∷ []) (Retry TextBefore)

abbrev pub text_start : StateRows LineByte Unit Unit
text_start = state TextStart text_start_rows [] (calls 2 4)

-- in the first line, which ends with its line ending
abbrev pub text_before_rows : (previous current : Option LineByte) → Rows Unit Unit
text_before_rows _ None = row (exit Data ∷ []) Ok
text_before_rows _ (Some line_ending) = row (consume ∷ []) (Next DataStart)
text_before_rows _ (Some other) = row (consume ∷ []) (Next TextBefore)

abbrev pub text_before : StateRows LineByte Unit Unit
text_before = record (state TextBefore text_before_rows (Data ∷ []) (calls 2 3)) { begun = at_byte is_any }

-- before the next line: the look begins; after it, reading goes on from here
abbrev pub data_start_rows : (previous current : Option LineByte) → Rows Unit Unit
data_start_rows _ None = row (exit Data ∷ []) Ok
data_start_rows _ (Some _) = row (choose Check (Next DataAtBreak) (Next DataAtBreak) ∷ []) (Retry DataInside)

abbrev pub data_start : StateRows LineByte Unit Unit
data_start = state DataStart data_start_rows (Data ∷ []) (calls 2 4)

-- in the look: it passes the line and its line ending
abbrev pub data_inside_rows : (previous current : Option LineByte) → Rows Unit Unit
data_inside_rows _ None = row [] Nok
data_inside_rows _ (Some line_ending) = row (consume ∷ []) (Next StringStart)
data_inside_rows _ (Some other) = row (consume ∷ []) (Next DataInside)

abbrev pub data_inside : StateRows LineByte Unit Unit
data_inside = record (state DataInside data_inside_rows [] (calls 1 1)) { needs = a_choice }

-- after the look, which always fails
abbrev pub string_start_rows : (previous current : Option LineByte) → Rows Unit Unit
string_start_rows _ _ = row [] Nok

abbrev pub string_start : StateRows LineByte Unit Unit
string_start = record (state StringStart string_start_rows [] (calls 0 1)) { needs = a_choice }

-- the look went back to this place, at a byte: the first data ends here, and another one begins
abbrev pub data_at_break_rows : (previous current : Option LineByte) → Rows Unit Unit
data_at_break_rows _ _ = row (exit Data ∷ enter Data ∷ []) (Retry StringBefore)

abbrev pub data_at_break : StateRows LineByte Unit Unit
data_at_break = record (state DataAtBreak data_at_break_rows (Data ∷ []) (calls 1 2)) { called = at_a_byte }

-- in the rest, which ends with the text
abbrev pub string_before_rows : (previous current : Option LineByte) → Rows Unit Unit
string_before_rows _ None = row (exit Data ∷ []) Ok
string_before_rows _ (Some _) = row (consume ∷ []) (Next StringBefore)

abbrev pub string_before : StateRows LineByte Unit Unit
string_before = record (state StringBefore string_before_rows (Data ∷ []) (calls 1 1)) { begun = at_byte is_any }

abbrev pub back : Table LineByte Unit Unit
back = record { class = line_byte; first = counts; states = text_start ∷ text_before ∷ data_start ∷ data_inside ∷ string_start ∷ data_at_break ∷ string_before ∷ []; starts = TextStart ∷ [] }

-- its rules: it registers no resolver, makes no edit, and links nothing
abbrev pub back_rules : Given → Rules Unit Unit
back_rules g = plain (table_rules back g)
