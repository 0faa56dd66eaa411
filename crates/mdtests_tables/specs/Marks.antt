-- A table whose choices end late, with a look and with an attempt that saves nothing: at a byte of a line it tries to read the rest of the
-- line. It looks over it first, for a line ending, and then goes round, byte by byte.
use Rattle.std.specs.Prelude.{ℕ, ◌+◌, ◌-◌, ◌*◌, ◌==◌, ◌||◌, Bool, ◌∷◌, [], Option, Some, None, length}
use Rattle.markdown.specs.StateConstants.Name.{DataInside, DataStart, StringBefore, StringStart, TextBefore, TextBeforeData, TextStart}
use Rattle.markdown.specs.declared.state.Name.{Name}
use Rattle.markdown.specs.declared.state.State.TheVariants.{Next, Retry, Ok, Nok}
use Rattle.markdown_tokenizer.specs.declared.waiting.AttemptKind.TheVariants.{Attempt, Check}
use Rattle.markdown.specs.Text.{Given, Text}
use Rattle.markdown.specs.Rules.{Rules}
use Rattle.markdown.specs.Plain as shape
use Rattle.mdconstructs_tables.specs.Late.{late_rules}
use Rattle.mdconstructs_tables.specs.Rows.{consume, choose, Rows, row, a_choice, at_a_byte, at_bytes, StateRows, calls, costs, state, Table}
use Rattle.mdconstructs_tables.specs.Tables.{LineByte, line_ending, other, line_byte, is_other, counts}

-- how many calls may come at a place where a line may be tried, and at one where that failed, if this many bytes are left
abbrev pub before_line : ℕ → ℕ
before_line n = 3 * (n * n) + 9 * n + 1

-- and where that failed
abbrev pub after_line : ℕ → ℕ
after_line n = 3 * (n * n) + 3 * n + 1

-- a cost by how many bytes are left
abbrev pub by_left : (ℕ → ℕ) → Text → ℕ → ℕ
by_left f text position = f (length text.seats - position)

-- at a byte of a line, or at a line ending
abbrev pub text_before_rows : (previous current : Option LineByte) → Rows Unit Unit
text_before_rows _ None = row [] Ok
text_before_rows _ (Some line_ending) = row (consume ∷ []) (Next TextBefore)
text_before_rows _ (Some other) = row (choose Attempt (Next TextBefore) (Next TextBeforeData) ∷ []) (Retry TextStart)

-- its state
abbrev pub text_before : StateRows LineByte Unit Unit
text_before = state TextBefore text_before_rows [] (costs (by_left before_line))

-- no line ending comes: the byte is passed
abbrev pub text_before_data_rows : (previous current : Option LineByte) → Rows Unit Unit
text_before_data_rows _ _ = row (consume ∷ []) (Next TextBefore)

-- its state
abbrev pub text_before_data : StateRows LineByte Unit Unit
text_before_data = record (state TextBeforeData text_before_data_rows [] (costs (by_left after_line))) { called = at_a_byte }

-- a line is tried: the look begins at its first byte
abbrev pub text_start_rows : (previous current : Option LineByte) → Rows Unit Unit
text_start_rows _ _ = row (choose Check (Next StringBefore) Nok ∷ []) (Retry StringStart)

-- its state
abbrev pub text_start : StateRows LineByte Unit Unit
text_start = record (state TextStart text_start_rows [] (calls 3 2)) { needs = a_choice; called = at_bytes is_other }

-- after the look, which went back to that byte
abbrev pub string_before_rows : (previous current : Option LineByte) → Rows Unit Unit
string_before_rows _ _ = row (consume ∷ []) (Next DataStart)

-- its state
abbrev pub string_before : StateRows LineByte Unit Unit
string_before = record (state StringBefore string_before_rows [] (calls 2 0)) { needs = a_choice; called = at_bytes is_other }

-- in the look, which ends at the line ending
abbrev pub string_start_rows : (previous current : Option LineByte) → Rows Unit Unit
string_start_rows _ None = row [] Nok
string_start_rows _ (Some line_ending) = row [] Ok
string_start_rows _ (Some other) = row (consume ∷ []) (Next StringStart)

-- its state
abbrev pub string_start : StateRows LineByte Unit Unit
string_start = record (state StringStart string_start_rows [] (calls 1 1)) { needs = a_choice }

-- in the line, after the look: it goes round through an attempt that saves nothing
abbrev pub data_start_rows : (previous current : Option LineByte) → Rows Unit Unit
data_start_rows _ None = row [] Ok
data_start_rows _ (Some line_ending) = row [] Ok
data_start_rows _ (Some other) = row (choose Attempt (Next DataStart) Nok ∷ consume ∷ []) (Next DataInside)

-- its state
abbrev pub data_start : StateRows LineByte Unit Unit
data_start = record (state DataStart data_start_rows [] (calls 2 1)) { needs = a_choice }

-- what was tried is there at once
abbrev pub data_inside_rows : (previous current : Option LineByte) → Rows Unit Unit
data_inside_rows _ _ = row [] Ok

-- its state
abbrev pub data_inside : StateRows LineByte Unit Unit
data_inside = record (state DataInside data_inside_rows [] (calls 0 1)) { needs = a_choice }

-- the states that are called where a line is tried
abbrev pub begins_line : Name → Option LineByte → Bool
begins_line name w = (name.number == TextStart.number) || (name.number == StringBefore.number)

-- the states that come next after an attempt
abbrev pub follows_line : Name → Bool
follows_line name = (name.number == TextBefore.number) || (name.number == DataStart.number)

-- the table of all these states
abbrev pub marks : Table LineByte Unit Unit
marks = record {
  class = line_byte;
  first = counts;
  states = text_before ∷ text_before_data ∷ text_start ∷ string_before ∷ string_start ∷ data_start ∷ data_inside ∷ [];
  starts = TextBefore ∷ [];
}

-- its rules: it registers no resolver, makes no edit, and links nothing
abbrev pub marks_rules : Given → Rules Unit Unit
marks_rules g = shape.plain (late_rules marks begins_line follows_line g)
