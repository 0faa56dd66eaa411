-- The table of the machine of texts: a list of constructs, with line endings and plain data between them.
use Rattle.std.specs.Prelude.{◌==◌, ◌||◌, Bool, cond, List, [], ◌∷◌, ◌++◌, Option, Some}
use Rattle.markdown_base.specs.declared.event.Name.TheVariants.{Data}
use Rattle.markdown_base.specs.declared.state.Name.{Name}
use Rattle.markdown_base.specs.declared.state.State.TheVariants.{Next, Retry}
use Rattle.markdown_base.specs.declared.state.TheConstants.Name.{TextStart, TextBefore, TextBeforeData, DataAtBreak, DataInside}
use Rattle.mdconstructs_tables.specs.Rows.{enter, consume, Rows, row, at_byte, at_a_byte, StateRows, state, Table}
use Rattle.mdconstructs_tables.specs.Numbers.{Price, by_left, by_class, numbers}
use Rattle.mdconstructs_tables.specs.Tables.{counts}
use Rattle.mdinline_text_machine.specs.AutolinkRows.{autolinks, autolink_prices}
use Rattle.mdinline_text_machine.specs.CodeSpanRows.{code_spans, code_span_prices}
use Rattle.mdinline_text_machine.specs.Construct.{Found, Construct, between_texts, before_rows, data_rows, states_of, some_begun, some_follows}
use Rattle.mdinline_text_machine.specs.EscapeRows.{escapes, escape_prices}
use Rattle.mdinline_text_machine.specs.TextBytes.{TextByte, backtick, text_byte, is_line_feed_class, is_backtick_class}
use Rattle.mdinline_text_machine.specs.TextCosts.{text_cost}

-- The constructs of texts, as they are read: what is tried at which byte
abbrev pub text_constructs : List (Construct Found TextByte Unit Unit)
text_constructs = code_spans ∷ autolinks ∷ escapes ∷ []

-- Before a text
abbrev pub text_start_rows : (previous current : Option TextByte) → Rows Unit Unit
text_start_rows _ _ = row [] (Retry TextBefore)

-- its state: no span is open
abbrev pub text_start : StateRows TextByte Unit Unit
text_start =
    state TextStart text_start_rows [] (text_cost (by_left 4 9 2))

-- Between constructs: one is tried, or data is read
abbrev pub text_before_rows : (previous current : Option TextByte) → Rows Unit Unit
text_before_rows = before_rows between_texts is_line_feed_class text_constructs

-- their state: no span is open
abbrev pub text_before : StateRows TextByte Unit Unit
text_before =
    state TextBefore text_before_rows [] (text_cost (by_left 4 9 1))

-- Data begins
abbrev pub text_before_data_rows : {R D : Type 0} → (previous current : Option TextByte) → Rows R D
text_before_data_rows _ (Some backtick) = row (enter Data ∷ []) (Retry DataAtBreak)
text_before_data_rows _ _ = row (enter Data ∷ consume ∷ []) (Next DataInside)

-- its state: no span is open, and a byte waits
abbrev pub text_before_data : {R D : Type 0} → StateRows TextByte R D
text_before_data =
    record (state TextBeforeData text_before_data_rows [] (text_cost (by_left 4 1 0))) { called = at_a_byte }

-- A backtick string that begins data is read whole
abbrev pub data_at_break_rows : {R D : Type 0} → (previous current : Option TextByte) → Rows R D
data_at_break_rows _ (Some backtick) = row (consume ∷ []) (Next DataAtBreak)
data_at_break_rows _ _ = row [] (Retry DataInside)

-- what it costs: less at a backtick, which it reads, than where the string ends
abbrev pub at_break : Price TextByte
at_break = by_class (numbers 4 9 9 3) (λ w. cond (is_backtick_class w) (numbers 4 9 9 4) (numbers 4 17 17 16))

-- its state: a data span is open
abbrev pub data_at_break : {R D : Type 0} → StateRows TextByte R D
data_at_break =
    record (state DataAtBreak data_at_break_rows (Data ∷ [])
    (text_cost at_break)) { begun = at_byte is_backtick_class }

-- In data, which ends at a byte that a line ending or a construct may begin with
abbrev pub data_inside_rows : (previous current : Option TextByte) → Rows Unit Unit
data_inside_rows = data_rows between_texts is_line_feed_class text_constructs

-- its state: a data span is open
abbrev pub data_inside : StateRows TextByte Unit Unit
data_inside =
    state DataInside data_inside_rows (Data ∷ []) (text_cost (by_left 4 9 2))

-- What the states cost. Between constructs each byte may begin one that is read to the end and fails
abbrev pub text_prices : List (Price TextByte)
text_prices = by_left 4 9 2 ∷ by_left 4 9 1 ∷ by_left 4 1 0 ∷ at_break ∷ by_left 4 9 2 ∷ (code_span_prices ++ (autolink_prices ++ escape_prices))

-- all states of texts
abbrev pub text_states : List (StateRows TextByte Unit Unit)
text_states = text_start ∷ text_before ∷ text_before_data ∷ data_at_break ∷ data_inside ∷ states_of text_constructs

-- their table: each call is counted, and a reading starts between constructs
abbrev pub texts : Table TextByte Unit Unit
texts = record { class = text_byte; first = counts; states = text_states; starts = TextStart ∷ [] }

-- the states that begin a construct: they are called only if the construct is tried
abbrev pub begins_construct : Name → Option TextByte → Bool
begins_construct = some_begun text_constructs

-- the states that come next if a construct was there
abbrev pub follows_construct : Name → Bool
follows_construct name = (name.number == TextBefore.number) || some_follows text_constructs name
