-- Indented code (CommonMark, 4.4). At the end of each line a look over blank lines says whether the code goes on; then blank lines are read
-- without a look.
use Rattle.std.specs.Prelude.{[], ◌∷◌}
use Rattle.markdown_base.specs.declared.event.Name.TheVariants.{CodeFlowChunk, CodeIndented, LineEnding, SpaceOrTab}
use Rattle.markdown_base.specs.declared.state.State.TheVariants.{Next, Retry, Ok, Nok}
use Rattle.markdown_base.specs.declared.state.TheConstants.Name.{FlowAfter, CodeIndentedStart, CodeIndentedAtBreak, CodeIndentedFurtherAfter, CodeIndentedInside, CodeIndentedFurtherStart, CodeIndentedAfter, CodeIndentedFurtherBegin}
use Rattle.mdblock_leaf_rows.specs.declared.names.TheConstants.{CodeIndentedLineAfter}
use Rattle.markdown_tokenizer.specs.declared.waiting.AttemptKind.TheVariants.{Check}
use Rattle.mdconstructs_tables.specs.Cases.{at}
use Rattle.mdconstructs_tables.specs.Rows.{enter, exit, consume, write, choose, row, when, at_byte, at_bytes, a_choice, StateRows, costs, state}
use Rattle.mdblock_leaf_rows.specs.FlowBytes.{FlowByte, is_line_feed, is_in_line, is_blank, Cased, cased}
use Rattle.mdblock_leaf_rows.specs.FlowCosts.{in_run, reading, in_code}
use Rattle.mdblock_leaf_rows.specs.FlowWrites.{count_becomes, count_grows, counts_to_four}

-- in the indentation, of four columns at most
abbrev pub code_indented_start_rows : {R D : Type 0} → Cased R D
code_indented_start_rows = record {
  at_end = row (exit SpaceOrTab ∷ []) (Retry CodeIndentedAtBreak);
  cases =
      at is_blank (when counts_to_four (row (write count_grows ∷ consume ∷ []) (Next CodeIndentedStart)) (row (exit SpaceOrTab ∷ []) (Retry CodeIndentedAtBreak))) ∷ [];
  rest = row (exit SpaceOrTab ∷ []) (Retry CodeIndentedAtBreak);
}

abbrev pub code_indented_start : {R D : Type 0} → StateRows FlowByte R D
code_indented_start = state CodeIndentedStart (cased code_indented_start_rows) (CodeIndented ∷ SpaceOrTab ∷ []) (costs (reading 6))

-- behind the indentation
abbrev pub code_indented_at_break_rows : {R D : Type 0} → Cased R D
code_indented_at_break_rows = record {
  at_end = row (exit CodeIndented ∷ []) (Retry FlowAfter);
  cases = at is_line_feed (row (enter LineEnding ∷ consume ∷ exit LineEnding ∷ []) (Next CodeIndentedFurtherBegin)) ∷ [];
  rest = row (enter CodeFlowChunk ∷ []) (Retry CodeIndentedFurtherAfter);
}

abbrev pub code_indented_at_break : {R D : Type 0} → StateRows FlowByte R D
code_indented_at_break = state CodeIndentedAtBreak (cased code_indented_at_break_rows) (CodeIndented ∷ []) (costs (reading 5))

-- in white space that a chunk begins with
abbrev pub code_indented_further_after_rows : {R D : Type 0} → Cased R D
code_indented_further_after_rows = record {
  at_end = row (exit CodeFlowChunk ∷ exit CodeIndented ∷ []) (Retry FlowAfter);
  cases =
      at is_line_feed (row (exit CodeFlowChunk ∷ enter LineEnding ∷ consume ∷ exit LineEnding ∷ []) (Next CodeIndentedFurtherBegin))
      ∷ at is_blank (row (consume ∷ []) (Next CodeIndentedFurtherAfter)) ∷ [];
  rest = row (consume ∷ []) (Next CodeIndentedInside);
}

abbrev pub code_indented_further_after : {R D : Type 0} → StateRows FlowByte R D
code_indented_further_after = record (state CodeIndentedFurtherAfter (cased code_indented_further_after_rows) (CodeIndented ∷ CodeFlowChunk ∷ []) (costs (reading 4))) { begun = at_byte is_in_line }

-- in a chunk, behind its first other byte
abbrev pub code_indented_inside_rows : {R D : Type 0} → Cased R D
code_indented_inside_rows = record {
  at_end = row (exit CodeFlowChunk ∷ exit CodeIndented ∷ []) (Retry FlowAfter);
  cases = at is_line_feed (row (choose Check (Next CodeIndentedLineAfter) (Next CodeIndentedAfter) ∷ []) (Retry CodeIndentedFurtherStart)) ∷ [];
  rest = row (consume ∷ []) (Next CodeIndentedInside);
}

abbrev pub code_indented_inside : {R D : Type 0} → StateRows FlowByte R D
code_indented_inside = state CodeIndentedInside (cased code_indented_inside_rows) (CodeIndented ∷ CodeFlowChunk ∷ []) (costs (in_code 5))

-- a look over blank lines for one more indented line
abbrev pub code_indented_further_start_rows : {R D : Type 0} → Cased R D
code_indented_further_start_rows = record {
  at_end = row [] Nok;
  cases =
      at is_line_feed (row (write (count_becomes 0) ∷ consume ∷ []) (Next CodeIndentedFurtherStart))
      ∷ at is_blank (row (write count_grows ∷ consume ∷ []) (Next CodeIndentedFurtherStart)) ∷ [];
  rest = when counts_to_four (row [] Nok) (row [] Ok);
}

abbrev pub code_indented_further_start : {R D : Type 0} → StateRows FlowByte R D
code_indented_further_start = record (state CodeIndentedFurtherStart (cased code_indented_further_start_rows) [] (costs (in_run 1))) { needs = a_choice }

-- at the end of a line of code that goes on
abbrev pub code_indented_line_after_rows : {R D : Type 0} → Cased R D
code_indented_line_after_rows = record {
  at_end = row [] Ok;
  cases = at is_line_feed (row (exit CodeFlowChunk ∷ enter LineEnding ∷ consume ∷ exit LineEnding ∷ []) (Next CodeIndentedFurtherBegin)) ∷ [];
  rest = row [] Ok;
}

abbrev pub code_indented_line_after : {R D : Type 0} → StateRows FlowByte R D
code_indented_line_after = record (state CodeIndentedLineAfter (cased code_indented_line_after_rows) (CodeIndented ∷ CodeFlowChunk ∷ []) (costs (reading 1))) { called = at_bytes is_line_feed }

-- at the end of the last line of code
abbrev pub code_indented_after_rows : {R D : Type 0} → Cased R D
code_indented_after_rows = record {
  at_end = row [] Ok;
  cases = at is_line_feed (row (exit CodeFlowChunk ∷ exit CodeIndented ∷ []) (Retry FlowAfter)) ∷ [];
  rest = row [] Ok;
}

abbrev pub code_indented_after : {R D : Type 0} → StateRows FlowByte R D
code_indented_after = record (state CodeIndentedAfter (cased code_indented_after_rows) (CodeIndented ∷ CodeFlowChunk ∷ []) (costs (reading 2))) { called = at_bytes is_line_feed }

-- before a further line of code
abbrev pub code_indented_further_begin_rows : {R D : Type 0} → Cased R D
code_indented_further_begin_rows = record {
  at_end = row (exit CodeIndented ∷ []) (Retry FlowAfter);
  cases =
      at is_line_feed (row (enter LineEnding ∷ consume ∷ exit LineEnding ∷ []) (Next CodeIndentedFurtherBegin))
      ∷ at is_blank (row (enter SpaceOrTab ∷ write (count_becomes 1) ∷ consume ∷ []) (Next CodeIndentedStart)) ∷ [];
  rest = row (enter CodeFlowChunk ∷ consume ∷ []) (Next CodeIndentedInside);
}

abbrev pub code_indented_further_begin : {R D : Type 0} → StateRows FlowByte R D
code_indented_further_begin = state CodeIndentedFurtherBegin (cased code_indented_further_begin_rows) (CodeIndented ∷ []) (costs (reading 5))
