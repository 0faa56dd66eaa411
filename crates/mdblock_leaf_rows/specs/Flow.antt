-- Before and behind blocks. At each line a look says first what kind of line it is; then its block is read without a choice.
use Rattle.std.specs.Prelude.{[], ◌∷◌}
use Rattle.markdown_base.specs.declared.event.Name.TheVariants.{BlankLineEnding, CodeFenced, CodeFencedFence, CodeFencedFenceSequence, CodeIndented, HeadingAtx, HeadingAtxSequence, HtmlFlow, HtmlFlowData, LineEnding, SpaceOrTab, ThematicBreak, ThematicBreakSequence as Marks}
use Rattle.markdown_base.specs.declared.state.State.TheVariants.{Next, Retry, Ok}
use Rattle.markdown_base.specs.declared.state.TheConstants.Name.{ContentDefinitionBefore, FlowStart, FlowBlankLineAfter, FlowAfter, FlowBlankLineBefore, BlankLineStart, ThematicBreakBefore, ThematicBreakSequence, HeadingAtxStart, HeadingAtxSequenceOpen, CodeIndentedStart, RawFlowStart, RawFlowSequenceOpen, HtmlFlowStart, HtmlFlowContinuation, FlowBeforeContent}
use Rattle.markdown_tokenizer.specs.declared.waiting.AttemptKind.TheVariants.{Check}
use Rattle.mdconstructs_tables.specs.Cases.{at}
use Rattle.mdconstructs_tables.specs.Rows.{enter, exit, consume, write, choose, Rows, row, when, at_bytes, at_bytes_or_end, StateRows, costs, state}
use Rattle.mdblock_leaf_rows.specs.FlowBytes.{FlowByte, is_line_feed, is_in_line, is_blank, is_sign, is_rule, is_fence, is_less, Cased, cased}
use Rattle.mdblock_leaf_rows.specs.FlowCosts.{starting, reading, looked}
use Rattle.mdblock_leaf_rows.specs.FlowWrites.{kind_is, is_break, indent_becomes, count_becomes}

-- white space begins a line of this kind; what could only be an underline begins a paragraph
abbrev pub blank_begins_line : {R D : Type 0} → Rows R D
blank_begins_line = when (kind_is BlankLineEnding) (row (enter SpaceOrTab ∷ consume ∷ []) (Next BlankLineStart)) (when (kind_is CodeIndented) (row (enter CodeIndented ∷ enter SpaceOrTab ∷ write (count_becomes 1) ∷ consume ∷ []) (Next CodeIndentedStart)) (when (kind_is HeadingAtx) (row (enter HeadingAtx ∷ enter SpaceOrTab ∷ consume ∷ []) (Next HeadingAtxStart)) (when (kind_is CodeFenced) (row (enter CodeFenced ∷ enter CodeFencedFence ∷ enter SpaceOrTab ∷ consume ∷ []) (Next RawFlowStart)) (when (kind_is HtmlFlow) (row (enter HtmlFlow ∷ enter HtmlFlowData ∷ consume ∷ []) (Next HtmlFlowStart)) (when is_break (row (enter ThematicBreak ∷ enter SpaceOrTab ∷ consume ∷ []) (Next ThematicBreakBefore)) (row [] (Retry FlowBeforeContent)))))))

-- a mark of thematic breaks does
abbrev pub mark_begins_line : {R D : Type 0} → Rows R D
mark_begins_line = when is_break (row (enter ThematicBreak ∷ enter Marks ∷ consume ∷ []) (Next ThematicBreakSequence)) (row [] (Retry FlowBeforeContent))

-- before a line that begins a block
abbrev pub flow_start_rows : {R D : Type 0} → Cased R D
flow_start_rows = record {
  at_end = row [] Ok;
  cases = at is_line_feed (row (enter BlankLineEnding ∷ consume ∷ exit BlankLineEnding ∷ []) (Next FlowStart)) ∷ [];
  rest = row (choose Check (Next FlowBlankLineAfter) (Next FlowBeforeContent) ∷ write (indent_becomes 0) ∷ []) (Retry FlowBlankLineBefore);
}

abbrev pub flow_start : {R D : Type 0} → StateRows FlowByte R D
flow_start = state FlowStart (cased flow_start_rows) [] (costs (starting 9))

-- before the text of a chain of content, which begins as a document does
abbrev pub content_definition_before_rows : {R D : Type 0} → Cased R D
content_definition_before_rows = record { at_end = row [] (Retry FlowStart); cases = []; rest = row [] (Retry FlowStart) }

abbrev pub content_definition_before : {R D : Type 0} → StateRows FlowByte R D
content_definition_before = state ContentDefinitionBefore (cased content_definition_before_rows) [] (costs (starting 10))

-- at a line whose kind is known: its block begins
abbrev pub flow_blank_line_after_rows : {R D : Type 0} → Cased R D
flow_blank_line_after_rows = record {
  at_end = row [] (Retry FlowBeforeContent);
  cases =
      at is_blank blank_begins_line
      ∷ at is_sign (row (enter HeadingAtx ∷ enter HeadingAtxSequence ∷ consume ∷ []) (Next HeadingAtxSequenceOpen))
      ∷ at is_rule mark_begins_line
      ∷ at is_fence (row (enter CodeFenced ∷ enter CodeFencedFence ∷ enter CodeFencedFenceSequence ∷ consume ∷ []) (Next RawFlowSequenceOpen))
      ∷ at is_less (row (enter HtmlFlow ∷ enter HtmlFlowData ∷ []) (Retry HtmlFlowContinuation)) ∷ [];
  rest = row [] (Retry FlowBeforeContent);
}

abbrev pub flow_blank_line_after : {R D : Type 0} → StateRows FlowByte R D
flow_blank_line_after = record (state FlowBlankLineAfter (cased flow_blank_line_after_rows) [] (costs (reading 9))) { called = at_bytes is_in_line }

-- behind a block, at the end of its last line
abbrev pub flow_after_rows : {R D : Type 0} → Cased R D
flow_after_rows = record {
  at_end = row [] Ok;
  cases = at is_line_feed (row (enter LineEnding ∷ consume ∷ exit LineEnding ∷ []) (Next FlowStart)) ∷ [];
  rest = row [] Ok;
}

abbrev pub flow_after : {R D : Type 0} → StateRows FlowByte R D
flow_after = record (state FlowAfter (cased flow_after_rows) [] (costs (looked 1))) { called = at_bytes_or_end is_line_feed }
