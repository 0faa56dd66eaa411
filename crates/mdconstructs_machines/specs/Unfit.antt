-- Tables that do not fit: one for each reason, and one for each other cause of a reason. And two that pass the test of rows and yet are not
-- lawful. All but the last are the table of lines with one thing changed.
use Rattle.std.specs.Prelude.{ℕ, List, ◌∷◌, [], Bool, true, false, Option, Some, None}
use Rattle.markdown_base.specs.declared.event.Name.TheVariants.{Paragraph, Data, LineEnding}
use Rattle.markdown_base.specs.declared.state.TheConstants.Name.{DataAtBreak, FlowStart, ParagraphInside, TextStart}
use Rattle.markdown_base.specs.declared.state.State.TheVariants.{Next, Retry, Ok, Nok}
use Rattle.markdown_tokenizer.specs.declared.waiting.AttemptKind.TheVariants.{Attempt, Check}
use Rattle.markdown_edits.specs.Edits.{edit_at, added_after}
use Rattle.markdown_tokenizer.specs.Configuration.{Configuration, Local}
use Rattle.markdown_tokenizer.specs.Text.{Text}
use Rattle.mdconstructs_tables.specs.Numbers.{Price, by_left, TooLow}
use Rattle.mdconstructs_tables.specs.Rows.{enter, exit, consume, write, choose, note, exit_noted, enter_noted, Rows, row, Called, before, here, a_choice, a_choice_for_ok, at_bytes, StateRows, calls, costs, state, Table}
use Rattle.mdconstructs_tables.specs.Tables.{LineByte, line_ending, other, line_byte, is_other, counts}
use Rattle.mdconstructs_machines.specs.Lines.{lines, flow_start_rows, flow_start, paragraph_inside}

-- lines with other rows before a line
abbrev pub lines_with : ((previous current : Option LineByte) → Rows Unit Unit) → Table LineByte Unit Unit
lines_with rows = record lines { states = record flow_start { rows = rows } ∷ paragraph_inside ∷ [] }

-- `act`: a line ending is consumed twice
abbrev pub consumes_twice : (previous current : Option LineByte) → Rows Unit Unit
consumes_twice previous (Some line_ending) = row (enter LineEnding ∷ consume ∷ consume ∷ exit LineEnding ∷ []) (Next FlowStart)
consumes_twice previous current = flow_start_rows previous current

-- `spans`: a line begins without its data
abbrev pub enters_no_data : (previous current : Option LineByte) → Rows Unit Unit
enters_no_data previous (Some other) = row (enter Paragraph ∷ []) (Retry ParagraphInside)
enters_no_data previous current = flow_start_rows previous current

-- `choice`: Nok is returned at a line ending, and no choice waits
abbrev pub gives_up : (previous current : Option LineByte) → Rows Unit Unit
gives_up previous (Some line_ending) = row [] Nok
gives_up previous current = flow_start_rows previous current

-- `answer`: Next is returned, and no byte was consumed
abbrev pub consumes_nothing : (previous current : Option LineByte) → Rows Unit Unit
consumes_nothing previous (Some line_ending) = row [] (Next FlowStart)
consumes_nothing previous current = flow_start_rows previous current

-- `unpaid`: the state before a line says one call for each byte and one more
abbrev pub unpaid_lines : Table LineByte Unit Unit
unpaid_lines = record lines { states = record flow_start { cost = calls 1 1 } ∷ paragraph_inside ∷ [] }

-- `start`: a reading starts in a line, whose spans are not open
abbrev pub starts_inside : Table LineByte Unit Unit
starts_inside = record lines { starts = ParagraphInside ∷ [] }

-- at a byte an attempt goes round that saves nothing: it goes on with the state that tried
abbrev pub round_by : ((previous current : Option LineByte) → Rows Unit Unit) → ((previous current : Option LineByte) → Rows Unit Unit) → Table LineByte Unit Unit
round_by rows tried = record lines {
  states = state FlowStart rows [] (calls 2 1) ∷ record (state ParagraphInside tried [] (calls 0 1)) { needs = a_choice_for_ok } ∷ [];
}

-- `unpaid`: no byte is read on the way round
abbrev pub goes_round_in_place : (previous current : Option LineByte) → Rows Unit Unit
goes_round_in_place _ None = row [] Ok
goes_round_in_place _ (Some _) = row (choose Attempt (Next FlowStart) Nok ∷ []) (Retry ParagraphInside)

-- what is tried is there at once
abbrev pub ends_well : (previous current : Option LineByte) → Rows Unit Unit
ends_well _ _ = row [] Ok

-- `choice`: the attempt fails at a line ending, and there is nothing to go back to
abbrev pub goes_round : (previous current : Option LineByte) → Rows Unit Unit
goes_round _ None = row [] Ok
goes_round _ (Some _) = row (choose Attempt (Next FlowStart) Nok ∷ consume ∷ []) (Next ParagraphInside)

-- what is tried is there at once, but not at a line ending
abbrev pub fails_at_line_ending : (previous current : Option LineByte) → Rows Unit Unit
fails_at_line_ending _ (Some line_ending) = row [] Nok
fails_at_line_ending _ _ = row [] Ok

-- lines with one row before a line, whatever waits
abbrev pub lines_that : Rows Unit Unit → Table LineByte Unit Unit
lines_that r = lines_with (λ previous current. r)

-- lines with another state in a line
abbrev pub lines_inside : StateRows LineByte Unit Unit → Table LineByte Unit Unit
lines_inside inside = record lines { states = flow_start ∷ inside ∷ [] }

-- `act`: an outer span is exited before an inner one
abbrev pub exits_outer_first : Rows Unit Unit
exits_outer_first = row (enter Paragraph ∷ enter Data ∷ consume ∷ exit Paragraph ∷ exit Data ∷ []) (Next FlowStart)

-- `act`: a span begins and ends at one place
abbrev pub spans_nothing : Rows Unit Unit
spans_nothing = row (enter LineEnding ∷ exit LineEnding ∷ consume ∷ []) (Next FlowStart)

-- `act`: a span begins at the end of the text
abbrev pub begins_at_the_end : Rows Unit Unit
begins_at_the_end = row (enter Paragraph ∷ []) (Retry FlowStart)

-- `act`: a span of a void name, which holds no other event, ends with one in it
abbrev pub fills_a_void_span : Rows Unit Unit
fills_a_void_span = row (enter LineEnding ∷ enter Data ∷ consume ∷ exit Data ∷ exit LineEnding ∷ []) (Next FlowStart)

-- `act`: a choice is made in a span of a void name with an event in it
abbrev pub tries_in_a_full_span : Rows Unit Unit
tries_in_a_full_span = row (enter LineEnding ∷ enter Data ∷ consume ∷ exit Data ∷ choose Check (Next FlowStart) (Next FlowStart) ∷ []) (Next FlowStart)

-- `act`: a place is noted where a span has just begun
abbrev pub notes_where_a_span_began : Rows Unit Unit
notes_where_a_span_began = row (enter LineEnding ∷ note ∷ consume ∷ exit LineEnding ∷ []) (Next FlowStart)

-- `act`: a span ends where no place was noted
abbrev pub ends_where_nothing_was_noted : Rows Unit Unit
ends_where_nothing_was_noted = row (enter Data ∷ consume ∷ exit_noted Data ∷ []) (Next FlowStart)

-- `act`: a span begins at the place that was noted, before its byte was read
abbrev pub begins_where_it_notes : Rows Unit Unit
begins_where_it_notes = row (note ∷ enter_noted Data ∷ consume ∷ exit Data ∷ []) (Next FlowStart)

-- `act`: a span begins at the place that was noted, and an event is after it
abbrev pub begins_before_an_event : Rows Unit Unit
begins_before_an_event = row (note ∷ consume ∷ enter_noted Data ∷ exit Data ∷ enter_noted Data ∷ exit Data ∷ []) (Next FlowStart)

-- a byte is noted and read, and then a span begins before it and ends behind it: that fits
abbrev pub begins_where_it_noted : Rows Unit Unit
begins_where_it_noted = row (note ∷ consume ∷ enter_noted Data ∷ exit Data ∷ []) (Next FlowStart)

-- `spans`: Ok is returned while a span is open
abbrev pub ends_inside : Rows Unit Unit
ends_inside = row (enter Paragraph ∷ consume ∷ []) Ok

-- `choice`: a check goes on with a line inside, and its spans are not open where the check is made
abbrev pub tries_to_go_inside : Rows Unit Unit
tries_to_go_inside = row (choose Check (Next ParagraphInside) (Next FlowStart) ∷ []) (Retry FlowStart)

-- `choice`: the state in a line needs a choice that waits, and before a line none does
abbrev pub needy_inside : StateRows LineByte Unit Unit
needy_inside = record paragraph_inside { needs = a_choice }

-- `answer`: the state in a line says that a place was noted, and none was
abbrev pub knowing_inside : StateRows LineByte Unit Unit
knowing_inside = record paragraph_inside { noted = true }

-- `answer`: Retry is returned behind a byte
abbrev pub retries_behind_a_byte : Rows Unit Unit
retries_behind_a_byte = row (consume ∷ []) (Retry FlowStart)

-- `answer`: no state has the name that is returned
abbrev pub names_no_state : Rows Unit Unit
names_no_state = row (consume ∷ []) (Next TextStart)

-- `answer`: an open span of a void name has another event in it
abbrev pub goes_on_in_a_full_span : Rows Unit Unit
goes_on_in_a_full_span = row (enter Paragraph ∷ enter Data ∷ enter LineEnding ∷ consume ∷ exit LineEnding ∷ []) (Next ParagraphInside)

-- `answer`: spans begin where the state in a line is called, and it says that they began before
abbrev pub late_inside : StateRows LineByte Unit Unit
late_inside = record paragraph_inside { begun = before }

-- `choice`: spans begin, and a check there goes on with the state in a line, which says that they began before
abbrev pub begins_and_tries : Rows Unit Unit
begins_and_tries = row (enter Paragraph ∷ enter Data ∷ choose Check (Next ParagraphInside) (Next ParagraphInside) ∷ []) (Retry FlowStart)

-- its table
abbrev pub tries_where_a_span_began : Table LineByte Unit Unit
tries_where_a_span_began = record lines { states = record flow_start { rows = λ previous current. begins_and_tries } ∷ late_inside ∷ [] }

-- `answer`: what is tried behind an enter ends with Ok before a byte was read
abbrev pub hasty_inside : StateRows LineByte Unit Unit
hasty_inside = record (state ParagraphInside ends_well [] (calls 0 1)) { begun = here; needs = a_choice_for_ok }

-- `answer`: the state in a line says that it is called at other bytes than line endings, and it goes on at whatever comes
abbrev pub narrow_inside : StateRows LineByte Unit Unit
narrow_inside = record paragraph_inside { called = at_bytes is_other }

-- `unpaid`: the state before a line is called again and again at one place
abbrev pub stays : Rows Unit Unit
stays = row [] (Retry FlowStart)

-- `start`: no state has the name that a reading starts with
abbrev pub starts_nowhere : Table LineByte Unit Unit
starts_nowhere = record lines { starts = TextStart ∷ [] }

-- a line and its data end in a state of their own
abbrev pub to_break_rows : (previous current : Option LineByte) → Rows Unit Unit
to_break_rows _ None = row [] (Retry DataAtBreak)
to_break_rows _ (Some line_ending) = row [] (Retry DataAtBreak)
to_break_rows _ (Some other) = row (consume ∷ []) (Next ParagraphInside)

-- it has a row that does not fit: Nok at a byte of a line
abbrev pub break_rows : (previous current : Option LineByte) → Rows Unit Unit
break_rows _ None = row (exit Data ∷ exit Paragraph ∷ []) Ok
break_rows _ (Some line_ending) = row (exit Data ∷ exit Paragraph ∷ []) (Retry FlowStart)
break_rows _ (Some other) = row [] Nok

-- a line ending, and no other byte
abbrev pub is_ending : LineByte → Bool
is_ending line_ending = true
is_ending other = false

-- lines with that state, which is called while this waits
abbrev pub breaking : Called LineByte → Table LineByte Unit Unit
breaking called = record lines {
  states =
      record flow_start { cost = calls 3 2 } ∷ record paragraph_inside { rows = to_break_rows; cost = calls 3 2 }
      ∷ record (state DataAtBreak break_rows (Paragraph ∷ Data ∷ []) (calls 3 2)) { called = called } ∷ [];
}

-- a cost that is none
abbrev pub no_cost : Text → ℕ → ℕ
no_cost text position = 0

-- no state says how many calls are left, and their own costs are none
abbrev pub uncounted_lines : Table LineByte Unit Unit
uncounted_lines = record lines { states = record flow_start { cost = costs no_cost } ∷ record paragraph_inside { cost = costs no_cost } ∷ [] }

-- an edit that removes the first event, which is not there
abbrev pub removes_first : Configuration Unit Unit → Local Unit Unit
removes_first k = record k.local { map = added_after k.local.map (edit_at 0 1 []) }

-- each byte is passed, and that edit is written at the end
abbrev pub editing_rows : (previous current : Option LineByte) → Rows Unit Unit
editing_rows _ None = row (write removes_first ∷ []) Ok
editing_rows _ (Some _) = row (consume ∷ []) (Next FlowStart)

abbrev pub editing : Table LineByte Unit Unit
editing = record { class = line_byte; first = counts; states = state FlowStart editing_rows [] (calls 1 1) ∷ []; starts = FlowStart ∷ [] }

-- numbers of lines that are too low: one call for each byte before a line, and two in it
abbrev pub too_few : List (Price LineByte)
too_few = by_left 0 1 1 ∷ by_left 0 2 1 ∷ []

-- what they lack: where a line begins, two calls for each byte behind its first one and four more are taken; half of that is there
abbrev pub lacking : List TooLow
lacking = record { name = FlowStart; takes = (0, 2, 2, 4); has = (0, 1, 1, 2) } ∷ []
