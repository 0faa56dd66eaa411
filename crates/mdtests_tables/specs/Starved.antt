-- The machine that runs out of memory: each byte is data of its own, from the start of each content. No step says at which call there is no
-- memory.
use Rattle.std.specs.Prelude.{◌∷◌, [], Option, Some, None}
use Rattle.markdown.specs.declared.event.Name.TheVariants.{Data}
use Rattle.markdown.specs.StateConstants.Name.{ContentDefinitionBefore, StringStart, TextStart}
use Rattle.markdown.specs.declared.state.State.TheVariants.{Next, Retry, Ok}
use Rattle.markdown.specs.Text.{Given}
use Rattle.markdown.specs.Rules.{Rules}
use Rattle.markdown.specs.Plain as shape
use Rattle.mdconstructs_tables.specs.Rows.{enter, exit, consume, Rows, row, StateRows, calls, state, Table}
use Rattle.mdconstructs_tables.specs.RowInvariant.{table_rules}
use Rattle.mdconstructs_tables.specs.Tables.{LineByte, line_byte, counts}

-- before a byte
abbrev pub text_start_rows : (previous current : Option LineByte) → Rows Unit Unit
text_start_rows _ None = row [] Ok
text_start_rows _ (Some _) = row (enter Data ∷ consume ∷ exit Data ∷ []) (Next TextStart)

abbrev pub text_start : StateRows LineByte Unit Unit
text_start = state TextStart text_start_rows [] (calls 1 1)

-- before content and before a string
abbrev pub retry_rows : (previous current : Option LineByte) → Rows Unit Unit
retry_rows _ _ = row [] (Retry TextStart)

abbrev pub string_start : StateRows LineByte Unit Unit
string_start = state StringStart retry_rows [] (calls 1 2)

abbrev pub content_start : StateRows LineByte Unit Unit
content_start = state ContentDefinitionBefore retry_rows [] (calls 1 2)

abbrev pub starved : Table LineByte Unit Unit
starved = record {
  class = line_byte;
  first = counts;
  states = text_start ∷ string_start ∷ content_start ∷ [];
  starts = ContentDefinitionBefore ∷ StringStart ∷ TextStart ∷ [];
}

-- its rules: it registers no resolver, makes no edit, and links nothing
abbrev pub starved_rules : Given → Rules Unit Unit
starved_rules g = shape.plain (table_rules starved g)
