-- The machine with a choice directly behind an enter: each line is a paragraph, whose first byte is data if another byte of the line follows.
use Rattle.std.specs.Prelude.{◌∷◌, [], Option, Some, None}
use Rattle.markdown.specs.declared.event.Name.TheVariants.{Data, LineEnding, Paragraph}
use Rattle.markdown.specs.StateConstants.Name.{DataInside, DataStart, ParagraphInside, TextStart}
use Rattle.markdown.specs.declared.state.State.TheVariants.{Next, Retry, Ok, Nok}
use Rattle.markdown_tokenizer.specs.declared.waiting.AttemptKind.TheVariants.{Attempt}
use Rattle.markdown.specs.Text.{Given}
use Rattle.markdown.specs.Rules.{Rules}
use Rattle.markdown.specs.Plain as shape
use Rattle.mdconstructs_tables.specs.Rows.{enter, exit, consume, choose, Rows, row, a_choice, at_byte, at_bytes, StateRows, calls, state, Table}
use Rattle.mdconstructs_tables.specs.RowInvariant.{table_rules}
use Rattle.mdconstructs_tables.specs.Tables.{LineByte, line_ending, other, line_byte, is_other, counts}

-- before a line: a paragraph begins, and its data is tried; whatever comes of that, the paragraph goes on
abbrev pub text_start_rows : (previous current : Option LineByte) → Rows Unit Unit
text_start_rows _ None = row [] Ok
text_start_rows _ (Some line_ending) = row (enter LineEnding ∷ consume ∷ exit LineEnding ∷ []) (Next TextStart)
text_start_rows _ (Some other) = row (enter Paragraph ∷ choose Attempt (Next ParagraphInside) (Next ParagraphInside) ∷ []) (Retry DataStart)

abbrev pub text_start : StateRows LineByte Unit Unit
text_start = state TextStart text_start_rows [] (calls 5 4)

-- what is tried: a byte of data
abbrev pub data_start_rows : (previous current : Option LineByte) → Rows Unit Unit
data_start_rows _ _ = row (enter Data ∷ consume ∷ exit Data ∷ []) (Next DataInside)

-- it is called where the paragraph began
abbrev pub data_start : StateRows LineByte Unit Unit
data_start = record (state DataStart data_start_rows [] (calls 0 2)) { begun = at_byte is_other; needs = a_choice; called = at_bytes is_other }

-- behind it another byte of the line has to follow
abbrev pub data_inside_rows : (previous current : Option LineByte) → Rows Unit Unit
data_inside_rows _ (Some other) = row [] Ok
data_inside_rows _ _ = row [] Nok

abbrev pub data_inside : StateRows LineByte Unit Unit
data_inside = record (state DataInside data_inside_rows [] (calls 0 1)) { needs = a_choice }

-- in a paragraph: it may have begun at the byte that waits, if the data was taken back
abbrev pub paragraph_inside_rows : (previous current : Option LineByte) → Rows Unit Unit
paragraph_inside_rows _ None = row (exit Paragraph ∷ []) Ok
paragraph_inside_rows _ (Some line_ending) = row (exit Paragraph ∷ []) (Retry TextStart)
paragraph_inside_rows _ (Some other) = row (consume ∷ []) (Next ParagraphInside)

abbrev pub paragraph_inside : StateRows LineByte Unit Unit
paragraph_inside = record (state ParagraphInside paragraph_inside_rows (Paragraph ∷ []) (calls 5 1)) { begun = at_byte is_other }

abbrev pub behind : Table LineByte Unit Unit
behind = record { class = line_byte; first = counts; states = text_start ∷ data_start ∷ data_inside ∷ paragraph_inside ∷ []; starts = TextStart ∷ [] }

-- its rules: it registers no resolver, makes no edit, and links nothing
abbrev pub behind_rules : Given → Rules Unit Unit
behind_rules g = shape.plain (table_rules behind g)
