-- The machine of lines: each line is a paragraph of data, with line endings between them.
use Rattle.std.specs.Prelude.{◌∷◌, [], Option, Some, None}
use Rattle.markdown_base.specs.declared.event.Name.TheVariants.{Paragraph, Data, LineEnding}
use Rattle.markdown_base.specs.declared.state.TheConstants.Name.{FlowStart, ParagraphInside}
use Rattle.markdown_base.specs.declared.state.State.TheVariants.{Next, Retry, Ok}
use Rattle.markdown_tokenizer.specs.Text.{Given}
use Rattle.markdown_tokenizer.specs.Rules.{Rules}
use Rattle.markdown_tokenizer.specs.Plain.{plain}
use Rattle.mdconstructs_tables.specs.Rows.{enter, exit, consume, Rows, row, at_byte, StateRows, calls, state, Table}
use Rattle.mdconstructs_tables.specs.RowInvariant.{table_rules}
use Rattle.mdconstructs_tables.specs.Tables.{LineByte, line_ending, other, line_byte, is_other, counts}

-- before a line
abbrev pub flow_start_rows : (previous current : Option LineByte) → Rows Unit Unit
flow_start_rows _ None = row [] Ok
flow_start_rows _ (Some line_ending) = row (enter LineEnding ∷ consume ∷ exit LineEnding ∷ []) (Next FlowStart)
flow_start_rows _ (Some other) = row (enter Paragraph ∷ enter Data ∷ []) (Retry ParagraphInside)

abbrev pub flow_start : StateRows LineByte Unit Unit
flow_start = state FlowStart flow_start_rows [] (calls 2 1)

-- in a line
abbrev pub paragraph_inside_rows : (previous current : Option LineByte) → Rows Unit Unit
paragraph_inside_rows _ None = row (exit Data ∷ exit Paragraph ∷ []) Ok
paragraph_inside_rows _ (Some line_ending) = row (exit Data ∷ exit Paragraph ∷ []) (Retry FlowStart)
paragraph_inside_rows _ (Some other) = row (consume ∷ []) (Next ParagraphInside)

abbrev pub paragraph_inside : StateRows LineByte Unit Unit
paragraph_inside = record (state ParagraphInside paragraph_inside_rows (Paragraph ∷ Data ∷ []) (calls 2 1)) { begun = at_byte is_other }

abbrev pub lines : Table LineByte Unit Unit
lines = record { class = line_byte; first = counts; states = flow_start ∷ paragraph_inside ∷ []; starts = FlowStart ∷ [] }

-- its rules: it registers no resolver, makes no edit, and links nothing
abbrev pub lines_rules : Given → Rules Unit Unit
lines_rules g = plain (table_rules lines g)
