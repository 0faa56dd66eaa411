-- The part of the table of inline text that reads strings: backslash escapes and character references, with line endings and data between them.
use Rattle.std.specs.Prelude.{List, [], ◌∷◌, true, Option}
use Rattle.markdown_base.specs.declared.event.Name.TheVariants.{Data}
use Rattle.markdown_base.specs.declared.state.State.TheVariants.{Next, Retry}
use Rattle.markdown_base.specs.declared.state.TheConstants.Name.{StringStart, StringBefore, StringBeforeData, DataStart}
use Rattle.markdown_tokenizer.specs.Calls.{with_resolvers, registered}
use Rattle.markdown_tokenizer.specs.Configuration.{Configuration, Local}
use Rattle.mdconstructs_tables.specs.Rows.{enter, consume, write, Rows, row, at_a_byte, StateRows, state}
use Rattle.mdconstructs_tables.specs.Numbers.{Price, by_left}
use Rattle.mdinline_text_machine.specs.Construct.{Between, Construct, Found, before_rows, data_rows}
use Rattle.mdinline_text_machine.specs.EscapeRows.{escapes}
use Rattle.mdinline_text_machine.specs.TextBytes.{TextByte, is_line_feed_class}
use Rattle.mdinline_text_machine.specs.TextCosts.{text_cost}
use Rattle.mdinline_constructs.specs.ReferenceRows.{references}

-- the one resolver is registered
abbrev pub registers : Configuration Unit Unit → Local Unit Unit
registers k = (with_resolvers k (registered (λ a b. true) tt k.local.resolvers)).local

-- the names of the states between constructs
abbrev pub between_strings : Between
between_strings = record { home = StringBefore; before_data = StringBeforeData; inside = DataStart }

-- The constructs of strings, as they are read, in any machine: what is tried at which byte
abbrev pub tried_in_strings : {R D : Type 0} → List (Construct Found TextByte R D)
tried_in_strings = record escapes { otherwise = StringBeforeData } ∷ record references { otherwise = StringBeforeData } ∷ []

-- the same in the machine of inline text
abbrev pub string_constructs : List (Construct Found TextByte Unit Unit)
string_constructs = tried_in_strings

-- Before a string. It has no bracket and no delimiter run, so the resolver will change nothing
abbrev pub string_start_rows : (previous current : Option TextByte) → Rows Unit Unit
string_start_rows _ _ = row (write registers ∷ []) (Retry StringBefore)

-- its state: no span is open
abbrev pub string_start : StateRows TextByte Unit Unit
string_start =
    state StringStart string_start_rows [] (text_cost (by_left 4 9 2))

-- Between constructs: one is tried, or data is read
abbrev pub string_before_rows : {R D : Type 0} → (previous current : Option TextByte) → Rows R D
string_before_rows = before_rows between_strings is_line_feed_class tried_in_strings

-- their state: no span is open
abbrev pub string_before : {R D : Type 0} → StateRows TextByte R D
string_before =
    state StringBefore string_before_rows [] (text_cost (by_left 4 9 1))

-- Data begins
abbrev pub string_before_data_rows : {R D : Type 0} → (previous current : Option TextByte) → Rows R D
string_before_data_rows _ _ = row (enter Data ∷ consume ∷ []) (Next DataStart)

-- its state: no span is open, and a byte waits
abbrev pub string_before_data : {R D : Type 0} → StateRows TextByte R D
string_before_data =
    record (state StringBeforeData string_before_data_rows [] (text_cost (by_left 4 1 0))) { called = at_a_byte }

-- In data, which ends at a byte that a line ending or a construct may begin with
abbrev pub string_data_rows : {R D : Type 0} → (previous current : Option TextByte) → Rows R D
string_data_rows = data_rows between_strings is_line_feed_class tried_in_strings

-- its state: a data span is open
abbrev pub string_data : {R D : Type 0} → StateRows TextByte R D
string_data =
    state DataStart string_data_rows (Data ∷ []) (text_cost (by_left 4 9 2))

-- What the states cost: as those of texts
abbrev pub string_prices : List (Price TextByte)
string_prices = by_left 4 9 2 ∷ by_left 4 9 1 ∷ by_left 4 1 0 ∷ by_left 4 9 2 ∷ []

-- the states but the first
abbrev pub later_string_states : List (StateRows TextByte Unit Unit)
later_string_states = string_before ∷ string_before_data ∷ string_data ∷ []

-- all states between constructs of strings
abbrev pub string_states : List (StateRows TextByte Unit Unit)
string_states = string_start ∷ later_string_states
