-- Fenced code (CommonMark, 4.5). It has a look at the opening fence, and one at the end of each line for the closing one.
use Rattle.std.specs.Prelude.{[], ◌∷◌}
use Rattle.markdown_base.specs.declared.event.Name.TheVariants.{CodeFenced, CodeFencedFence, CodeFencedFenceInfo, CodeFencedFenceMeta, CodeFencedFenceSequence, CodeFlowChunk, Data, LineEnding, SpaceOrTab}
use Rattle.markdown_base.specs.declared.state.State.TheVariants.{Next, Retry, Ok, Nok}
use Rattle.markdown_base.specs.declared.state.TheConstants.Name.{FlowAfter, FlowBeforeRaw, RawFlowStart, RawFlowSequenceOpen, RawFlowInfoBefore, RawFlowBeforeSequenceOpen, RawFlowInfo, RawFlowMetaBefore, RawFlowMeta, RawFlowAtNonLazyBreak, RawFlowCloseStart, RawFlowBeforeSequenceClose, RawFlowSequenceClose, RawFlowAfterSequenceClose, RawFlowContentBefore, RawFlowContentStart, RawFlowBeforeContentChunk, RawFlowContentChunk, RawFlowAfter}
use Rattle.mdblock_leaf_rows.specs.declared.names.TheConstants.{RawFlowLookInfo, RawFlowInfoAfter, RawFlowCloseBefore, RawFlowCloseBlank, RawFlowCloseSequence, RawFlowCloseBetween}
use Rattle.markdown_tokenizer.specs.declared.waiting.AttemptKind.TheVariants.{Check}
use Rattle.mdconstructs_tables.specs.Cases.{at}
use Rattle.mdconstructs_tables.specs.Rows.{enter, enter_link, exit, consume, write, choose, Rows, row, when, at_byte, at_bytes, at_bytes_or_end, a_choice, StateRows, costs, state}
use Rattle.mdblock_leaf_rows.specs.FlowBytes.{FlowByte, is_line_feed, is_in_line, is_blank, is_word, is_tick, is_fence, Cased, cased}
use Rattle.mdblock_leaf_rows.specs.FlowCosts.{looking, at_next_line, reading, looked}
use Rattle.mdblock_leaf_rows.specs.FlowWrites.{string_link, kind_becomes, size_grows, count_becomes, count_grows, may_be_indented, counts_to_indent, is_stripped, has_three, is_as_long, at_mark, is_tilde_fence}

-- the marks end: a fence of tildes has any info string
abbrev pub fence_ends : {R D : Type 0} → Rows R D
fence_ends = when has_three (when is_tilde_fence (row (write (kind_becomes CodeFenced) ∷ []) Ok) (row [] (Retry RawFlowLookInfo))) (row [] Nok)

-- a look at the marks of an opening fence
abbrev pub flow_before_raw_rows : {R D : Type 0} → Cased R D
flow_before_raw_rows = record {
  at_end = fence_ends;
  cases = at is_fence (when at_mark (row (write size_grows ∷ consume ∷ []) (Next FlowBeforeRaw)) fence_ends) ∷ [];
  rest = fence_ends;
}

abbrev pub flow_before_raw : {R D : Type 0} → StateRows FlowByte R D
flow_before_raw = record (state FlowBeforeRaw (cased flow_before_raw_rows) [] (costs (looking 2))) { needs = a_choice }

-- a look over the info string of a fence of grave accents, which has no other
abbrev pub raw_flow_look_info_rows : {R D : Type 0} → Cased R D
raw_flow_look_info_rows = record {
  at_end = row (write (kind_becomes CodeFenced) ∷ []) Ok;
  cases = at is_line_feed (row (write (kind_becomes CodeFenced) ∷ []) Ok) ∷ at is_tick (row [] Nok) ∷ [];
  rest = row (consume ∷ []) (Next RawFlowLookInfo);
}

abbrev pub raw_flow_look_info : {R D : Type 0} → StateRows FlowByte R D
raw_flow_look_info = record (state RawFlowLookInfo (cased raw_flow_look_info_rows) [] (costs (looking 1))) { needs = a_choice }

-- in white space before a fence
abbrev pub raw_flow_start_rows : {R D : Type 0} → Cased R D
raw_flow_start_rows = record {
  at_end = row (exit SpaceOrTab ∷ []) (Retry RawFlowInfoBefore);
  cases =
      at is_blank (row (consume ∷ []) (Next RawFlowStart))
      ∷ at is_fence (row (exit SpaceOrTab ∷ enter CodeFencedFenceSequence ∷ consume ∷ []) (Next RawFlowSequenceOpen)) ∷ [];
  rest = row (exit SpaceOrTab ∷ []) (Retry RawFlowInfoBefore);
}

abbrev pub raw_flow_start : {R D : Type 0} → StateRows FlowByte R D
raw_flow_start = state RawFlowStart (cased raw_flow_start_rows) (CodeFenced ∷ CodeFencedFence ∷ SpaceOrTab ∷ []) (costs (reading 8))

-- in the marks of an opening fence
abbrev pub raw_flow_sequence_open_rows : {R D : Type 0} → Cased R D
raw_flow_sequence_open_rows = record {
  at_end = row (exit CodeFencedFenceSequence ∷ []) (Retry RawFlowInfoBefore);
  cases = at is_fence (when at_mark (row (consume ∷ []) (Next RawFlowSequenceOpen)) (row (exit CodeFencedFenceSequence ∷ []) (Retry RawFlowInfoBefore))) ∷ [];
  rest = row (exit CodeFencedFenceSequence ∷ []) (Retry RawFlowInfoBefore);
}

abbrev pub raw_flow_sequence_open : {R D : Type 0} → StateRows FlowByte R D
raw_flow_sequence_open = state RawFlowSequenceOpen (cased raw_flow_sequence_open_rows) (CodeFenced ∷ CodeFencedFence ∷ CodeFencedFenceSequence ∷ []) (costs (reading 8))

-- before white space or the info string, or at the end of the line
abbrev pub raw_flow_info_before_rows : {R D : Type 0} → Cased R D
raw_flow_info_before_rows = record {
  at_end = row (exit CodeFencedFence ∷ []) (Retry RawFlowAtNonLazyBreak);
  cases =
      at is_line_feed (row (exit CodeFencedFence ∷ []) (Retry RawFlowAtNonLazyBreak))
      ∷ at is_blank (row (enter SpaceOrTab ∷ consume ∷ []) (Next RawFlowBeforeSequenceOpen)) ∷ [];
  rest = row (enter CodeFencedFenceInfo ∷ enter_link Data string_link ∷ []) (Retry RawFlowInfo);
}

abbrev pub raw_flow_info_before : {R D : Type 0} → StateRows FlowByte R D
raw_flow_info_before = state RawFlowInfoBefore (cased raw_flow_info_before_rows) (CodeFenced ∷ CodeFencedFence ∷ []) (costs (reading 7))

-- in white space before the info string
abbrev pub raw_flow_before_sequence_open_rows : {R D : Type 0} → Cased R D
raw_flow_before_sequence_open_rows = record {
  at_end = row (exit SpaceOrTab ∷ []) (Retry RawFlowInfoBefore);
  cases = at is_blank (row (consume ∷ []) (Next RawFlowBeforeSequenceOpen)) ∷ [];
  rest = row (exit SpaceOrTab ∷ []) (Retry RawFlowInfoBefore);
}

abbrev pub raw_flow_before_sequence_open : {R D : Type 0} → StateRows FlowByte R D
raw_flow_before_sequence_open = state RawFlowBeforeSequenceOpen (cased raw_flow_before_sequence_open_rows) (CodeFenced ∷ CodeFencedFence ∷ SpaceOrTab ∷ []) (costs (reading 8))

-- in the first word of the info string
abbrev pub raw_flow_info_rows : {R D : Type 0} → Cased R D
raw_flow_info_rows = record {
  at_end = row (exit Data ∷ exit CodeFencedFenceInfo ∷ exit CodeFencedFence ∷ []) (Retry RawFlowAtNonLazyBreak);
  cases =
      at is_line_feed (row (exit Data ∷ exit CodeFencedFenceInfo ∷ exit CodeFencedFence ∷ []) (Retry RawFlowAtNonLazyBreak))
      ∷ at is_blank (row (exit Data ∷ exit CodeFencedFenceInfo ∷ enter SpaceOrTab ∷ consume ∷ []) (Next RawFlowInfoAfter)) ∷ [];
  rest = row (consume ∷ []) (Next RawFlowInfo);
}

abbrev pub raw_flow_info : {R D : Type 0} → StateRows FlowByte R D
raw_flow_info = record (state RawFlowInfo (cased raw_flow_info_rows) (CodeFenced ∷ CodeFencedFence ∷ CodeFencedFenceInfo ∷ Data ∷ []) (costs (reading 6))) { begun = at_byte is_word }

-- in white space behind the first word
abbrev pub raw_flow_info_after_rows : {R D : Type 0} → Cased R D
raw_flow_info_after_rows = record {
  at_end = row (exit SpaceOrTab ∷ []) (Retry RawFlowMetaBefore);
  cases = at is_blank (row (consume ∷ []) (Next RawFlowInfoAfter)) ∷ [];
  rest = row (exit SpaceOrTab ∷ []) (Retry RawFlowMetaBefore);
}

abbrev pub raw_flow_info_after : {R D : Type 0} → StateRows FlowByte R D
raw_flow_info_after = state RawFlowInfoAfter (cased raw_flow_info_after_rows) (CodeFenced ∷ CodeFencedFence ∷ SpaceOrTab ∷ []) (costs (reading 7))

-- before the further words of the info string, or at the end of the line
abbrev pub raw_flow_meta_before_rows : {R D : Type 0} → Cased R D
raw_flow_meta_before_rows = record {
  at_end = row (exit CodeFencedFence ∷ []) (Retry RawFlowAtNonLazyBreak);
  cases = at is_line_feed (row (exit CodeFencedFence ∷ []) (Retry RawFlowAtNonLazyBreak)) ∷ [];
  rest = row (enter CodeFencedFenceMeta ∷ enter_link Data string_link ∷ []) (Retry RawFlowMeta);
}

abbrev pub raw_flow_meta_before : {R D : Type 0} → StateRows FlowByte R D
raw_flow_meta_before = state RawFlowMetaBefore (cased raw_flow_meta_before_rows) (CodeFenced ∷ CodeFencedFence ∷ []) (costs (reading 6))

-- in the further words
abbrev pub raw_flow_meta_rows : {R D : Type 0} → Cased R D
raw_flow_meta_rows = record {
  at_end = row (exit Data ∷ exit CodeFencedFenceMeta ∷ exit CodeFencedFence ∷ []) (Retry RawFlowAtNonLazyBreak);
  cases = at is_line_feed (row (exit Data ∷ exit CodeFencedFenceMeta ∷ exit CodeFencedFence ∷ []) (Retry RawFlowAtNonLazyBreak)) ∷ [];
  rest = row (consume ∷ []) (Next RawFlowMeta);
}

abbrev pub raw_flow_meta : {R D : Type 0} → StateRows FlowByte R D
raw_flow_meta = record (state RawFlowMeta (cased raw_flow_meta_rows) (CodeFenced ∷ CodeFencedFence ∷ CodeFencedFenceMeta ∷ Data ∷ []) (costs (reading 5))) { begun = at_byte is_in_line }

-- at the end of a line in fenced code
abbrev pub raw_flow_at_non_lazy_break_rows : {R D : Type 0} → Cased R D
raw_flow_at_non_lazy_break_rows = record {
  at_end = row (exit CodeFenced ∷ []) (Retry FlowAfter);
  cases = at is_line_feed (row (choose Check (Next RawFlowAfter) (Next RawFlowContentBefore) ∷ []) (Retry RawFlowCloseStart)) ∷ [];
  rest = row [] Ok;
}

abbrev pub raw_flow_at_non_lazy_break : {R D : Type 0} → StateRows FlowByte R D
raw_flow_at_non_lazy_break = record (state RawFlowAtNonLazyBreak (cased raw_flow_at_non_lazy_break_rows) (CodeFenced ∷ []) (costs (reading 4))) { called = at_bytes_or_end is_line_feed }

-- a look at the next line: is it the closing fence?
abbrev pub raw_flow_close_start_rows : {R D : Type 0} → Cased R D
raw_flow_close_start_rows = record {
  at_end = row [] Ok;
  cases = at is_line_feed (row (write (count_becomes 0) ∷ consume ∷ []) (Next RawFlowBeforeSequenceClose)) ∷ [];
  rest = row [] Ok;
}

abbrev pub raw_flow_close_start : {R D : Type 0} → StateRows FlowByte R D
raw_flow_close_start = record (state RawFlowCloseStart (cased raw_flow_close_start_rows) [] (costs (at_next_line 2))) { needs = a_choice; called = at_bytes is_line_feed }

-- a look over the indentation of a closing fence
abbrev pub raw_flow_before_sequence_close_rows : {R D : Type 0} → Cased R D
raw_flow_before_sequence_close_rows = record {
  at_end = row [] Nok;
  cases =
      at is_blank (when may_be_indented (row (write count_grows ∷ consume ∷ []) (Next RawFlowBeforeSequenceClose)) (row [] Nok))
      ∷ at is_fence (when at_mark (row (write (count_becomes 1) ∷ consume ∷ []) (Next RawFlowSequenceClose)) (row [] Nok)) ∷ [];
  rest = row [] Nok;
}

abbrev pub raw_flow_before_sequence_close : {R D : Type 0} → StateRows FlowByte R D
raw_flow_before_sequence_close = record (state RawFlowBeforeSequenceClose (cased raw_flow_before_sequence_close_rows) [] (costs (looking 1))) { needs = a_choice }

-- a look at the marks of a closing fence
abbrev pub raw_flow_sequence_close_rows : {R D : Type 0} → Cased R D
raw_flow_sequence_close_rows = record {
  at_end = when is_as_long (row [] Ok) (row [] Nok);
  cases =
      at is_line_feed (when is_as_long (row [] Ok) (row [] Nok))
      ∷ at is_blank (when is_as_long (row (consume ∷ []) (Next RawFlowAfterSequenceClose)) (row [] Nok))
      ∷ at is_fence (when at_mark (row (write count_grows ∷ consume ∷ []) (Next RawFlowSequenceClose)) (row [] Nok)) ∷ [];
  rest = row [] Nok;
}

abbrev pub raw_flow_sequence_close : {R D : Type 0} → StateRows FlowByte R D
raw_flow_sequence_close = record (state RawFlowSequenceClose (cased raw_flow_sequence_close_rows) [] (costs (looking 1))) { needs = a_choice }

-- a look over white space behind a closing fence
abbrev pub raw_flow_after_sequence_close_rows : {R D : Type 0} → Cased R D
raw_flow_after_sequence_close_rows = record {
  at_end = row [] Ok;
  cases = at is_line_feed (row [] Ok) ∷ at is_blank (row (consume ∷ []) (Next RawFlowAfterSequenceClose)) ∷ [];
  rest = row [] Nok;
}

abbrev pub raw_flow_after_sequence_close : {R D : Type 0} → StateRows FlowByte R D
raw_flow_after_sequence_close = record (state RawFlowAfterSequenceClose (cased raw_flow_after_sequence_close_rows) [] (costs (looking 1))) { needs = a_choice }

-- at the end of a line before a line of code
abbrev pub raw_flow_content_before_rows : {R D : Type 0} → Cased R D
raw_flow_content_before_rows = record {
  at_end = row [] Ok;
  cases = at is_line_feed (row (enter LineEnding ∷ consume ∷ exit LineEnding ∷ []) (Next RawFlowContentStart)) ∷ [];
  rest = row [] Ok;
}

abbrev pub raw_flow_content_before : {R D : Type 0} → StateRows FlowByte R D
raw_flow_content_before = record (state RawFlowContentBefore (cased raw_flow_content_before_rows) (CodeFenced ∷ []) (costs (looked 1))) { called = at_bytes is_line_feed }

-- before a line of code
abbrev pub raw_flow_content_start_rows : {R D : Type 0} → Cased R D
raw_flow_content_start_rows = record {
  at_end = row [] (Retry RawFlowAtNonLazyBreak);
  cases =
      at is_line_feed (row [] (Retry RawFlowAtNonLazyBreak))
      ∷ at is_blank (when is_stripped (row (enter SpaceOrTab ∷ write (count_becomes 1) ∷ consume ∷ []) (Next RawFlowBeforeContentChunk)) (row (enter CodeFlowChunk ∷ consume ∷ []) (Next RawFlowContentChunk))) ∷ [];
  rest = row (enter CodeFlowChunk ∷ consume ∷ []) (Next RawFlowContentChunk);
}

abbrev pub raw_flow_content_start : {R D : Type 0} → StateRows FlowByte R D
raw_flow_content_start = state RawFlowContentStart (cased raw_flow_content_start_rows) (CodeFenced ∷ []) (costs (reading 5))

-- in the indentation of a line of code, up to that of the opening fence
abbrev pub raw_flow_before_content_chunk_rows : {R D : Type 0} → Cased R D
raw_flow_before_content_chunk_rows = record {
  at_end = row (exit SpaceOrTab ∷ []) (Retry RawFlowAtNonLazyBreak);
  cases =
      at is_line_feed (row (exit SpaceOrTab ∷ []) (Retry RawFlowAtNonLazyBreak))
      ∷ at is_blank (when counts_to_indent (row (write count_grows ∷ consume ∷ []) (Next RawFlowBeforeContentChunk)) (row (exit SpaceOrTab ∷ enter CodeFlowChunk ∷ consume ∷ []) (Next RawFlowContentChunk))) ∷ [];
  rest = row (exit SpaceOrTab ∷ enter CodeFlowChunk ∷ consume ∷ []) (Next RawFlowContentChunk);
}

abbrev pub raw_flow_before_content_chunk : {R D : Type 0} → StateRows FlowByte R D
raw_flow_before_content_chunk = state RawFlowBeforeContentChunk (cased raw_flow_before_content_chunk_rows) (CodeFenced ∷ SpaceOrTab ∷ []) (costs (reading 5))

-- in a line of code
abbrev pub raw_flow_content_chunk_rows : {R D : Type 0} → Cased R D
raw_flow_content_chunk_rows = record {
  at_end = row (exit CodeFlowChunk ∷ []) (Retry RawFlowAtNonLazyBreak);
  cases = at is_line_feed (row (exit CodeFlowChunk ∷ []) (Retry RawFlowAtNonLazyBreak)) ∷ [];
  rest = row (consume ∷ []) (Next RawFlowContentChunk);
}

abbrev pub raw_flow_content_chunk : {R D : Type 0} → StateRows FlowByte R D
raw_flow_content_chunk = state RawFlowContentChunk (cased raw_flow_content_chunk_rows) (CodeFenced ∷ CodeFlowChunk ∷ []) (costs (reading 5))

-- at the end of the line before the closing fence
abbrev pub raw_flow_after_rows : {R D : Type 0} → Cased R D
raw_flow_after_rows = record {
  at_end = row [] Ok;
  cases = at is_line_feed (row (enter LineEnding ∷ consume ∷ exit LineEnding ∷ []) (Next RawFlowCloseBefore)) ∷ [];
  rest = row [] Ok;
}

abbrev pub raw_flow_after : {R D : Type 0} → StateRows FlowByte R D
raw_flow_after = record (state RawFlowAfter (cased raw_flow_after_rows) (CodeFenced ∷ []) (costs (looked 1))) { called = at_bytes is_line_feed }

-- before the closing fence
abbrev pub raw_flow_close_before_rows : {R D : Type 0} → Cased R D
raw_flow_close_before_rows = record {
  at_end = row (exit CodeFenced ∷ []) (Retry FlowAfter);
  cases =
      at is_line_feed (row (exit CodeFenced ∷ []) (Retry FlowAfter))
      ∷ at is_blank (row (enter CodeFencedFence ∷ enter SpaceOrTab ∷ consume ∷ []) (Next RawFlowCloseBlank)) ∷ [];
  rest = row (enter CodeFencedFence ∷ enter CodeFencedFenceSequence ∷ consume ∷ []) (Next RawFlowCloseSequence);
}

abbrev pub raw_flow_close_before : {R D : Type 0} → StateRows FlowByte R D
raw_flow_close_before = state RawFlowCloseBefore (cased raw_flow_close_before_rows) (CodeFenced ∷ []) (costs (reading 2))

-- in white space of the closing fence
abbrev pub raw_flow_close_blank_rows : {R D : Type 0} → Cased R D
raw_flow_close_blank_rows = record {
  at_end = row (exit SpaceOrTab ∷ []) (Retry RawFlowCloseBetween);
  cases = at is_blank (row (consume ∷ []) (Next RawFlowCloseBlank)) ∷ [];
  rest = row (exit SpaceOrTab ∷ []) (Retry RawFlowCloseBetween);
}

abbrev pub raw_flow_close_blank : {R D : Type 0} → StateRows FlowByte R D
raw_flow_close_blank = state RawFlowCloseBlank (cased raw_flow_close_blank_rows) (CodeFenced ∷ CodeFencedFence ∷ SpaceOrTab ∷ []) (costs (reading 3))

-- in the marks of the closing fence
abbrev pub raw_flow_close_sequence_rows : {R D : Type 0} → Cased R D
raw_flow_close_sequence_rows = record {
  at_end = row (exit CodeFencedFenceSequence ∷ []) (Retry RawFlowCloseBetween);
  cases = at is_fence (row (consume ∷ []) (Next RawFlowCloseSequence)) ∷ [];
  rest = row (exit CodeFencedFenceSequence ∷ []) (Retry RawFlowCloseBetween);
}

abbrev pub raw_flow_close_sequence : {R D : Type 0} → StateRows FlowByte R D
raw_flow_close_sequence = state RawFlowCloseSequence (cased raw_flow_close_sequence_rows) (CodeFenced ∷ CodeFencedFence ∷ CodeFencedFenceSequence ∷ []) (costs (reading 3))

-- before white space or marks of the closing fence, or at its end
abbrev pub raw_flow_close_between_rows : {R D : Type 0} → Cased R D
raw_flow_close_between_rows = record {
  at_end = row (exit CodeFencedFence ∷ exit CodeFenced ∷ []) (Retry FlowAfter);
  cases =
      at is_line_feed (row (exit CodeFencedFence ∷ exit CodeFenced ∷ []) (Retry FlowAfter))
      ∷ at is_blank (row (enter SpaceOrTab ∷ consume ∷ []) (Next RawFlowCloseBlank)) ∷ [];
  rest = row (enter CodeFencedFenceSequence ∷ consume ∷ []) (Next RawFlowCloseSequence);
}

abbrev pub raw_flow_close_between : {R D : Type 0} → StateRows FlowByte R D
raw_flow_close_between = state RawFlowCloseBetween (cased raw_flow_close_between_rows) (CodeFenced ∷ CodeFencedFence ∷ []) (costs (reading 2))
