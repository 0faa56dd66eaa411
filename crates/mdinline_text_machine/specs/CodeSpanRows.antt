-- Rows that read code spans.
use Rattle.std.specs.Prelude.{◌==◌, ◌&&◌, ◌||◌, not, Bool, cond, List, [], ◌∷◌, Option, Some, None}
use Rattle.markdown_base.specs.declared.event.Name.TheVariants.{LineEnding, CodeText, CodeTextSequence, CodeTextData}
use Rattle.markdown_base.specs.declared.state.Name.{Name}
use Rattle.markdown_base.specs.declared.state.State.TheVariants.{Next, Retry, Ok, Nok}
use Rattle.markdown_base.specs.declared.state.TheConstants.Name.{TextBeforeData, RawTextStart, RawTextSequenceOpen, RawTextBetween, RawTextData, RawTextSequenceClose}
use Rattle.mdinline_text_machine.specs.declared.names.TheConstants.{RawTextAfter, RawTextBackticksInside, RawTextBackticksStart}
use Rattle.markdown_tokenizer.specs.declared.waiting.AttemptKind.TheVariants.{Attempt}
use Rattle.markdown_tokenizer.specs.Text.{Given}
use Rattle.markdown_tokenizer.specs.Configuration.{Configuration}
use Rattle.markdown_tokenizer.specs.Sight.{Sight}
use Rattle.mdconstructs_tables.specs.Rows.{enter, exit, consume, write, choose, Rows, row, when, at_byte, at_bytes, StateRows, state}
use Rattle.mdconstructs_tables.specs.Numbers.{Price, by_left, by_run, by_class, numbers}
use Rattle.mdinline_text_machine.specs.Construct.{Found, Construct, if_option, tried}
use Rattle.mdinline_text_machine.specs.TextBytes.{TextByte, line_feed, backtick, is_tick, ends_code_data, is_backtick_class}
use Rattle.mdinline_text_machine.specs.TextCosts.{text_cost}
use Rattle.mdinline_text_machine.specs.TextSizes.{size_b_is, size_c_is, size_b_grows, size_c_grows}
use Rattle.mdinline_text_machine.specs.CodeSpan.{code_span_grammar}

-- the options have code spans on
abbrev pub code_spans_are_on : {R D : Type 0} → Given → Sight → Configuration R D → Bool
code_spans_are_on g s k = g.options.constructs.code_text

-- two backtick strings have equal length
abbrev pub sizes_are_equal : {R D : Type 0} → Given → Sight → Configuration R D → Bool
sizes_are_equal g s k = k.local.tokenize_state.size_c == k.local.tokenize_state.size_b

-- a line ending is read, and then the state of this name is next
abbrev pub line_ending_then : {R D : Type 0} → Name → Rows R D
line_ending_then name = row (enter LineEnding ∷ consume ∷ exit LineEnding ∷ []) (Next name)

-- Code span: it begins at a backtick
abbrev pub raw_text_start_rows : {R D : Type 0} → (previous current : Option TextByte) → Rows R D
raw_text_start_rows _ _ = row (enter CodeText ∷ enter CodeTextSequence ∷ write (size_b_is 0) ∷ []) (Retry RawTextSequenceOpen)

-- its state: it is called only at a backtick, and no span is open yet
abbrev pub raw_text_start : {R D : Type 0} → StateRows TextByte R D
raw_text_start =
    tried (record (state RawTextStart raw_text_start_rows [] (text_cost (by_left 0 7 0))) { called = at_bytes is_backtick_class })

-- its opening backtick string is read
abbrev pub raw_text_sequence_open_rows : {R D : Type 0} → (previous current : Option TextByte) → Rows R D
raw_text_sequence_open_rows _ (Some backtick) = row (write size_b_grows ∷ consume ∷ []) (Next RawTextSequenceOpen)
raw_text_sequence_open_rows _ _ = row (exit CodeTextSequence ∷ []) (Retry RawTextBetween)

-- its state: a code span and its sequence are open
abbrev pub raw_text_sequence_open : {R D : Type 0} → StateRows TextByte R D
raw_text_sequence_open =
    tried (record (state RawTextSequenceOpen raw_text_sequence_open_rows (CodeText ∷ CodeTextSequence ∷ [])
    (text_cost (by_run (numbers 0 1 7 2)))) { begun = at_byte is_backtick_class })

-- in it a line ending, data, or a backtick string that may close it is read
abbrev pub raw_text_between_rows : {R D : Type 0} → (previous current : Option TextByte) → Rows R D
raw_text_between_rows _ None = row [] Nok
raw_text_between_rows _ (Some line_feed) = line_ending_then RawTextBetween
raw_text_between_rows _ (Some backtick) =
    row (choose Attempt (Next RawTextAfter) (Next RawTextBackticksStart) ∷ enter CodeTextSequence ∷ write (size_c_is 0) ∷ []) (Retry RawTextSequenceClose)
raw_text_between_rows _ (Some _) = row (enter CodeTextData ∷ []) (Retry RawTextData)

-- its state: a code span is open
abbrev pub raw_text_between : {R D : Type 0} → StateRows TextByte R D
raw_text_between =
    tried (state RawTextBetween raw_text_between_rows (CodeText ∷ []) (text_cost (by_left 0 7 1)))

-- data in it ends at a line ending, at a backtick, or at the end
abbrev pub raw_text_data_rows : {R D : Type 0} → (previous current : Option TextByte) → Rows R D
raw_text_data_rows _ None = row (exit CodeTextData ∷ []) (Retry RawTextBetween)
raw_text_data_rows _ (Some line_feed) = row (exit CodeTextData ∷ []) (Retry RawTextBetween)
raw_text_data_rows _ (Some backtick) = row (exit CodeTextData ∷ []) (Retry RawTextBetween)
raw_text_data_rows _ (Some _) = row (consume ∷ []) (Next RawTextData)

-- the classes of the bytes of data in a code span
abbrev pub is_code_data : TextByte → Bool
is_code_data w = not (ends_code_data (Some w))

-- what it costs: less at data, which it reads, than where data ends
abbrev pub in_code_data : Price TextByte
in_code_data = by_class (numbers 0 7 7 2) (λ w. cond (is_code_data w) (numbers 0 7 7 3) (numbers 0 7 7 9))

-- its state: a code span and its data are open
abbrev pub raw_text_data : {R D : Type 0} → StateRows TextByte R D
raw_text_data =
    tried (record (state RawTextData raw_text_data_rows (CodeText ∷ CodeTextData ∷ [])
    (text_cost in_code_data)) { begun = at_byte is_code_data })

-- a backtick string closes it if it is as long as the opening one
abbrev pub raw_text_sequence_close_rows : {R D : Type 0} → (previous current : Option TextByte) → Rows R D
raw_text_sequence_close_rows _ (Some backtick) = row (write size_c_grows ∷ consume ∷ []) (Next RawTextSequenceClose)
raw_text_sequence_close_rows _ _ = when sizes_are_equal (row (exit CodeTextSequence ∷ []) Ok) (row [] Nok)

-- its state: a sequence is open
abbrev pub raw_text_sequence_close : {R D : Type 0} → StateRows TextByte R D
raw_text_sequence_close =
    tried (record (state RawTextSequenceClose raw_text_sequence_close_rows (CodeTextSequence ∷ [])
    (text_cost (by_run (numbers 0 1 0 1)))) { begun = at_byte is_backtick_class })

-- after that backtick string the code span ends
abbrev pub raw_text_after_rows : {R D : Type 0} → (previous current : Option TextByte) → Rows R D
raw_text_after_rows _ _ = row (exit CodeText ∷ []) Ok

-- its state: a code span is open
abbrev pub raw_text_after : {R D : Type 0} → StateRows TextByte R D
raw_text_after =
    tried (state RawTextAfter raw_text_after_rows (CodeText ∷ []) (text_cost (by_left 0 0 1)))

-- a backtick string of another length is data
abbrev pub raw_text_backticks_start_rows : {R D : Type 0} → (previous current : Option TextByte) → Rows R D
raw_text_backticks_start_rows _ _ = row (enter CodeTextData ∷ []) (Retry RawTextBackticksInside)

-- its state: it is called only at a backtick, and a code span is open
abbrev pub raw_text_backticks_start : {R D : Type 0} → StateRows TextByte R D
raw_text_backticks_start =
    tried (record (state RawTextBackticksStart raw_text_backticks_start_rows (CodeText ∷ [])
    (text_cost (by_run (numbers 0 1 7 4)))) { called = at_bytes is_backtick_class })

-- that backtick string is read whole
abbrev pub raw_text_backticks_inside_rows : {R D : Type 0} → (previous current : Option TextByte) → Rows R D
raw_text_backticks_inside_rows _ (Some backtick) = row (consume ∷ []) (Next RawTextBackticksInside)
raw_text_backticks_inside_rows _ _ = row [] (Retry RawTextData)

-- its state: a code span and its data are open
abbrev pub raw_text_backticks_inside : {R D : Type 0} → StateRows TextByte R D
raw_text_backticks_inside =
    tried (record (state RawTextBackticksInside raw_text_backticks_inside_rows (CodeText ∷ CodeTextData ∷ [])
    (text_cost (by_run (numbers 0 1 7 3)))) { begun = at_byte is_backtick_class })

-- its states that are called only if it is tried: at a backtick
abbrev pub code_span_begun : Name → Option TextByte → Bool
code_span_begun name w =
    is_tick w && ((name.number == RawTextStart.number) || ((name.number == RawTextSequenceOpen.number) || (name.number == RawTextSequenceClose.number)))

-- What its states cost. A backtick string that may close it is read once as that, and if it is of another length once as data
abbrev pub code_span_prices : List (Price TextByte)
code_span_prices =
    by_left 0 7 0 ∷ by_run (numbers 0 1 7 2) ∷ by_left 0 7 1 ∷ in_code_data ∷ by_run (numbers 0 1 0 1) ∷ by_left 0 0 1 ∷ by_run (numbers 0 1 7 4)
    ∷ by_run (numbers 0 1 7 3) ∷ []

-- How code spans are read
abbrev pub code_spans : {R D : Type 0} → Construct Found TextByte R D
code_spans = record {
  grammar = code_span_grammar;
  begins = is_backtick_class;
  allowed = if_option code_span_grammar;
  start = RawTextStart;
  otherwise = TextBeforeData;
  states =
      raw_text_start ∷ raw_text_sequence_open ∷ raw_text_between ∷ raw_text_data ∷ raw_text_sequence_close ∷ raw_text_after
      ∷ raw_text_backticks_start ∷ raw_text_backticks_inside ∷ [];
  begun = code_span_begun;
  follows = λ name. name.number == RawTextAfter.number;
}
