-- The machine that tries something at every byte, one attempt inside the other: all fail at the end, and the text is read as data.
use Rattle.std.specs.Prelude.{◌∷◌, [], Option, Some, None, ℕ, zero, suc, ◌+◌, ◌*◌, ◌-◌, length}
use Rattle.markdown_base.specs.declared.state.TheConstants.Name.{StringStart, StringBefore, DataStart}
use Rattle.markdown_base.specs.declared.state.State.TheVariants.{Next, Ok, Nok}
use Rattle.markdown_tokenizer.specs.declared.waiting.AttemptKind.TheVariants.{Attempt}
use Rattle.markdown_tokenizer.specs.Text.{Given, Text}
use Rattle.markdown_tokenizer.specs.Rules.{Rules}
use Rattle.markdown_tokenizer.specs.Plain.{plain}
use Rattle.mdconstructs_tables.specs.Rows.{consume, choose, Rows, row, a_choice, a_choice_once_read, StateRows, calls, costs, state, Table}
use Rattle.mdconstructs_tables.specs.RowInvariant.{table_rules}
use Rattle.mdconstructs_tables.specs.Tables.{LineByte, line_byte, counts}
use Rattle.mdconstructs_tables.specs.DataRows.{data_start, data_inside}

-- at a byte to try something at, or at the end. If an attempt fails, data is read at the first byte, and later the rest is read once more.
abbrev pub string_start_rows : (previous current : Option LineByte) → Rows Unit Unit
string_start_rows None None = row [] Ok
string_start_rows (Some _) None = row [] Nok
string_start_rows None (Some _) = row (choose Attempt (Next DataStart) (Next DataStart) ∷ consume ∷ []) (Next StringStart)
string_start_rows (Some _) (Some _) = row (choose Attempt (Next StringBefore) (Next StringBefore) ∷ consume ∷ []) (Next StringStart)

-- the rest is read once more, in an attempt, and fails at the end too
abbrev pub string_before_rows : (previous current : Option LineByte) → Rows Unit Unit
string_before_rows _ None = row [] Nok
string_before_rows _ (Some _) = row (consume ∷ []) (Next StringBefore)

abbrev pub string_before : StateRows LineByte Unit Unit
string_before = record (state StringBefore string_before_rows [] (calls 1 1)) { needs = a_choice }

-- the sum of the numbers below n, which is n * (n - 1) / 2 (`triangle-is`)
abbrev pub triangle : ℕ → ℕ
triangle zero = 0
triangle (suc n) = triangle n + n

-- how many calls trying each byte may take, at a position with this many bytes left: from the start, n * (n - 1) / 2 + 4 * n + 1
abbrev pub tries_cost : ℕ → ℕ → ℕ
tries_cost zero n = triangle n + 4 * n + 1
tries_cost (suc before_it) n = triangle n + 3 * n + 1

-- the same, by the text
abbrev pub deep_cost : Text → ℕ → ℕ
deep_cost text position = tries_cost position (length text.seats - position)

abbrev pub string_start : StateRows LineByte Unit Unit
string_start = record (state StringStart string_start_rows [] (costs deep_cost)) { needs = a_choice_once_read }

abbrev pub deep : Table LineByte Unit Unit
deep = record { class = line_byte; first = counts; states = string_start ∷ string_before ∷ data_start ∷ data_inside ∷ []; starts = StringStart ∷ [] }

-- its rules: it registers no resolver, makes no edit, and links nothing
abbrev pub deep_rules : Given → Rules Unit Unit
deep_rules g = plain (table_rules deep g)
