-- The machine of headings: a line that begins with a number sign is a heading, of up to six signs and the rest of the line; any other line
-- is data.
use Rattle.std.specs.Prelude.{ℕ, ◌+◌, ◌-◌, ◌^◌, ◌==◌, nat_lt, min, cond, Bool, ◌∷◌, [], Option, Some, None}
use Rattle.markdown.specs.declared.event.Name.TheVariants.{Data, HeadingAtx, HeadingAtxSequence, LineEnding}
use Rattle.markdown.specs.StateConstants.Name.{FlowStart, HeadingAtxSequenceOpen, HeadingAtxData, DataInside}
use Rattle.markdown.specs.declared.state.State.TheVariants.{Next, Retry, Ok}
use Rattle.markdown.specs.Text.{Given}
use Rattle.markdown.specs.Configuration.{Configuration, Local}
use Rattle.markdown.specs.Sight.{Sight}
use Rattle.markdown.specs.Rules.{Rules}
use Rattle.markdown.specs.Plain as shape
use Rattle.mdconstructs.specs.Rows.{enter, exit, consume, write, Rows, row, when, StateRows, calls, state, Table}
use Rattle.mdconstructs.specs.RowInvariant.{table_rules}
use Rattle.mdconstructs.specs.Tables.{counts}

-- The classes of bytes: a line ending, a number sign, or another
pub data HeadingByte : Type 0 where
  line_feed : HeadingByte
  sign : HeadingByte
  other : HeadingByte

abbrev pub heading_byte : ℕ → HeadingByte
heading_byte byte = cond (byte == 10) line_feed (cond (byte == 35) sign other)

-- the count of number signs is n
abbrev pub signs_are : ℕ → Configuration Unit Unit → Local Unit Unit
signs_are n k = record k.local { tokenize_state = record k.local.tokenize_state { size_b = n } }

abbrev pub one_sign : Configuration Unit Unit → Local Unit Unit
one_sign k = signs_are 1 k

abbrev pub one_sign_more : Configuration Unit Unit → Local Unit Unit
one_sign_more k = signs_are (min (k.local.tokenize_state.size_b + 1) (2 ^ 64 - 1)) k

-- there are fewer than six number signs
abbrev pub has_room : Given → Sight → Configuration Unit Unit → Bool
has_room g s k = nat_lt k.local.tokenize_state.size_b 6

-- before a line
abbrev pub flow_start_rows : (previous current : Option HeadingByte) → Rows Unit Unit
flow_start_rows _ None = row [] Ok
flow_start_rows _ (Some line_feed) = row (enter LineEnding ∷ consume ∷ exit LineEnding ∷ []) (Next FlowStart)
flow_start_rows _ (Some sign) = row (enter HeadingAtx ∷ enter HeadingAtxSequence ∷ write one_sign ∷ consume ∷ []) (Next HeadingAtxSequenceOpen)
flow_start_rows _ (Some other) = row (enter Data ∷ consume ∷ []) (Next DataInside)

abbrev pub flow_start : StateRows HeadingByte Unit Unit
flow_start = state FlowStart flow_start_rows [] (calls 2 1)

-- the data of a heading begins
abbrev pub data_begins : Rows Unit Unit
data_begins = row (exit HeadingAtxSequence ∷ enter Data ∷ consume ∷ []) (Next HeadingAtxData)

-- in the number signs of a heading
abbrev pub sequence_rows : (previous current : Option HeadingByte) → Rows Unit Unit
sequence_rows _ None = row (exit HeadingAtxSequence ∷ exit HeadingAtx ∷ []) Ok
sequence_rows _ (Some line_feed) = row (exit HeadingAtxSequence ∷ exit HeadingAtx ∷ []) (Retry FlowStart)
sequence_rows _ (Some sign) = when has_room (row (write one_sign_more ∷ consume ∷ []) (Next HeadingAtxSequenceOpen)) data_begins
sequence_rows _ (Some other) = data_begins

abbrev pub sequence : StateRows HeadingByte Unit Unit
sequence = state HeadingAtxSequenceOpen sequence_rows (HeadingAtx ∷ HeadingAtxSequence ∷ []) (calls 2 1)

-- in the data of a heading
abbrev pub heading_data_rows : (previous current : Option HeadingByte) → Rows Unit Unit
heading_data_rows _ None = row (exit Data ∷ exit HeadingAtx ∷ []) Ok
heading_data_rows _ (Some line_feed) = row (exit Data ∷ exit HeadingAtx ∷ []) (Retry FlowStart)
heading_data_rows _ (Some _) = row (consume ∷ []) (Next HeadingAtxData)

abbrev pub heading_data : StateRows HeadingByte Unit Unit
heading_data = state HeadingAtxData heading_data_rows (HeadingAtx ∷ Data ∷ []) (calls 2 1)

-- in a line of data
abbrev pub line_data_rows : (previous current : Option HeadingByte) → Rows Unit Unit
line_data_rows _ None = row (exit Data ∷ []) Ok
line_data_rows _ (Some line_feed) = row (exit Data ∷ []) (Retry FlowStart)
line_data_rows _ (Some _) = row (consume ∷ []) (Next DataInside)

abbrev pub line_data : StateRows HeadingByte Unit Unit
line_data = state DataInside line_data_rows (Data ∷ []) (calls 2 1)

abbrev pub headings : Table HeadingByte Unit Unit
headings = record { class = heading_byte; first = counts; states = flow_start ∷ sequence ∷ heading_data ∷ line_data ∷ []; starts = FlowStart ∷ [] }

-- its rules: it registers no resolver, makes no edit, and links nothing
abbrev pub headings_rules : Given → Rules Unit Unit
headings_rules g = shape.plain (table_rules headings g)
