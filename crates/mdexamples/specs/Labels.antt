-- The machine of labels: `[`, bytes of one line and `]` are a label; a `[` without its `]`, and all else except line endings, is data.
use Rattle.std.specs.Prelude.{ℕ, ◌==◌, cond, Bool, true, false, List, ◌∷◌, [], Option, Some, None}
use Rattle.markdown.specs.declared.event.Name.TheVariants.{Data, Label, LabelMarker, LineEnding}
use Rattle.markdown.specs.declared.state.Name.{Name}
use Rattle.markdown.specs.StateConstants.Name.{TextBefore, TextBeforeData, DataInside, LabelStart, LabelInside}
use Rattle.markdown.specs.declared.state.State.TheVariants.{Next, Retry, Ok, Nok}
use Rattle.markdown.specs.declared.waiting.AttemptKind.TheVariants.{Attempt}
use Rattle.markdown.specs.Text.{Given}
use Rattle.markdown.specs.Rules.{Rules}
use Rattle.markdown.specs.Plain as shape
use Rattle.mdconstructs.specs.Late.{late_rules}
use Rattle.mdconstructs.specs.Numbers.{Price, by_left, priced}
use Rattle.mdconstructs.specs.Rows.{enter, exit, consume, choose, Rows, row, a_choice, at_a_byte, at_bytes, Cost, costs, StateRows, state, Table}
use Rattle.mdconstructs.specs.Tables.{counts}

-- The classes of bytes: a line ending, the two brackets, or another
pub data LabelByte : Type 0 where
  line_feed : LabelByte
  opening : LabelByte
  closing : LabelByte
  other : LabelByte

abbrev pub label_byte : ℕ → LabelByte
label_byte byte = cond (byte == 10) line_feed (cond (byte == 91) opening (cond (byte == 93) closing other))

-- What the states cost, by the bytes that are left. Between labels each byte may begin one that is read to the end of its line and fails
abbrev pub label_prices : List (Price LabelByte)
label_prices = by_left 1 5 2 ∷ by_left 1 3 1 ∷ by_left 1 5 3 ∷ by_left 0 1 1 ∷ by_left 0 1 1 ∷ []

-- no price asks for a run of bytes
abbrev pub no_run : LabelByte → Bool
no_run w = false

abbrev pub label_cost : Price LabelByte → Cost
label_cost price = costs (priced label_byte no_run price)

-- between labels: at `[` one is tried
abbrev pub text_before_rows : (previous current : Option LabelByte) → Rows Unit Unit
text_before_rows _ None = row [] Ok
text_before_rows _ (Some line_feed) = row (enter LineEnding ∷ consume ∷ exit LineEnding ∷ []) (Next TextBefore)
text_before_rows _ (Some opening) = row (choose Attempt (Next TextBefore) (Next TextBeforeData) ∷ []) (Retry LabelStart)
text_before_rows _ (Some _) = row [] (Retry TextBeforeData)

abbrev pub text_before : StateRows LabelByte Unit Unit
text_before = state TextBefore text_before_rows [] (label_cost (by_left 1 5 2))

-- before data; never called at the end
abbrev pub text_before_data_rows : (previous current : Option LabelByte) → Rows Unit Unit
text_before_data_rows _ _ = row (enter Data ∷ consume ∷ []) (Next DataInside)

abbrev pub text_before_data : StateRows LabelByte Unit Unit
text_before_data = record (state TextBeforeData text_before_data_rows [] (label_cost (by_left 1 3 1))) { called = at_a_byte }

-- in data
abbrev pub data_inside_rows : (previous current : Option LabelByte) → Rows Unit Unit
data_inside_rows _ None = row (exit Data ∷ []) (Retry TextBefore)
data_inside_rows _ (Some line_feed) = row (exit Data ∷ []) (Retry TextBefore)
data_inside_rows _ (Some opening) = row (exit Data ∷ []) (Retry TextBefore)
data_inside_rows _ (Some _) = row (consume ∷ []) (Next DataInside)

abbrev pub data_inside : StateRows LabelByte Unit Unit
data_inside = state DataInside data_inside_rows (Data ∷ []) (label_cost (by_left 1 5 3))

-- a label is tried: a choice waits, and `[`
abbrev pub label_start_rows : (previous current : Option LabelByte) → Rows Unit Unit
label_start_rows _ _ = row (enter Label ∷ enter LabelMarker ∷ consume ∷ exit LabelMarker ∷ []) (Next LabelInside)

abbrev pub is_opening : LabelByte → Bool
is_opening opening = true
is_opening _ = false

abbrev pub label_start : StateRows LabelByte Unit Unit
label_start = record (state LabelStart label_start_rows [] (label_cost (by_left 0 1 1))) { called = at_bytes is_opening; needs = a_choice }

-- in a label
abbrev pub label_inside_rows : (previous current : Option LabelByte) → Rows Unit Unit
label_inside_rows _ None = row [] Nok
label_inside_rows _ (Some line_feed) = row [] Nok
label_inside_rows _ (Some closing) = row (enter LabelMarker ∷ consume ∷ exit LabelMarker ∷ exit Label ∷ []) Ok
label_inside_rows _ (Some _) = row (consume ∷ []) (Next LabelInside)

abbrev pub label_inside : StateRows LabelByte Unit Unit
label_inside = record (state LabelInside label_inside_rows (Label ∷ []) (label_cost (by_left 0 1 1))) { needs = a_choice }

-- the state that may be called where the attempt was made: the first of a label
abbrev pub begins_label : Name → Option LabelByte → Bool
begins_label name w = name.number == LabelStart.number

-- the state that comes next if a label was there
abbrev pub follows_label : Name → Bool
follows_label name = name.number == TextBefore.number

abbrev pub labels : Table LabelByte Unit Unit
labels = record {
  class = label_byte;
  first = counts;
  states = text_before ∷ text_before_data ∷ data_inside ∷ label_start ∷ label_inside ∷ [];
  starts = TextBefore ∷ [];
}

-- its rules: no resolver, no edit, no link, and no label is empty
abbrev pub labels_rules : Given → Rules Unit Unit
labels_rules g = shape.plain (late_rules labels begins_label follows_label g)
