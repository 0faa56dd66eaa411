-- HTML blocks (CommonMark, 4.6). Kinds 1 to 5 end with a line that holds their end, which may overlap the start; kinds 6 and 7 end before a
-- blank line.
use Rattle.std.specs.Prelude.{ℕ, [], ◌∷◌}
use Rattle.markdown_base.specs.declared.event.Name.TheVariants.{HtmlFlow, HtmlFlowData, LineEnding}
use Rattle.markdown_base.specs.declared.state.State.TheVariants.{Next, Retry, Ok, Nok}
use Rattle.markdown_base.specs.declared.state.TheConstants.Name.{FlowAfter, HtmlFlowBlankLineBefore, HtmlFlowContinuation, HtmlFlowContinuationAfter, HtmlFlowContinuationBefore, HtmlFlowContinuationCdataInside, HtmlFlowContinuationClose, HtmlFlowContinuationCommentInside, HtmlFlowContinuationDeclarationInside, HtmlFlowContinuationRawEndTag, HtmlFlowContinuationRawTagOpen, HtmlFlowContinuationStart, HtmlFlowStart}
use Rattle.mdblock_leaf_rows.specs.declared.names.TheConstants.{HtmlFlowBlankLineInside}
use Rattle.markdown_tokenizer.specs.declared.waiting.AttemptKind.TheVariants.{Check}
use Rattle.mdconstructs_tables.specs.Cases.{at}
use Rattle.mdconstructs_tables.specs.Rows.{enter, exit, consume, write, choose, Rows, row, when, at_byte, at_bytes, a_choice, StateRows, costs, state}
use Rattle.mdblock_leaf_rows.specs.FlowBytes.{FlowByte, is_blank, is_closing, is_dash, is_greater, is_in_line, is_less, is_line_feed, is_question, is_slash, Cased, cased, spelled}
use Rattle.mdblock_leaf_rows.specs.FlowCosts.{at_next_line, looked, looking, reading}
use Rattle.mdblock_leaf_rows.specs.FlowWrites.{size_becomes}
use Rattle.mdblock_leaf_rows.specs.HtmlWrites.{ends_at_blank_line, html_is, is_raw_tag, raw_name_grows}

-- in white space before HTML
abbrev pub html_flow_start_rows : {R D : Type 0} → Cased R D
html_flow_start_rows = record {
  at_end = row (exit HtmlFlowData ∷ exit HtmlFlow ∷ []) (Retry FlowAfter);
  cases =
      at is_line_feed (row (exit HtmlFlowData ∷ exit HtmlFlow ∷ []) (Retry FlowAfter))
      ∷ at is_blank (row (consume ∷ []) (Next HtmlFlowStart)) ∷ [];
  rest = row (exit HtmlFlowData ∷ enter HtmlFlowData ∷ []) (Retry HtmlFlowContinuation);
}

abbrev pub html_flow_start : {R D : Type 0} → StateRows FlowByte R D
html_flow_start = state HtmlFlowStart (cased html_flow_start_rows) (HtmlFlow ∷ HtmlFlowData ∷ []) (costs (reading 6))

-- in a line of HTML: by its kind, the end may begin here
abbrev pub html_flow_continuation_rows : {R D : Type 0} → Cased R D
html_flow_continuation_rows = record {
  at_end = row (exit HtmlFlowData ∷ exit HtmlFlow ∷ []) (Retry FlowAfter);
  cases =
      at is_line_feed (when ends_at_blank_line (row (choose Check (Next HtmlFlowContinuationAfter) (Next HtmlFlowContinuationStart) ∷ []) (Retry HtmlFlowBlankLineBefore)) (row (exit HtmlFlowData ∷ enter LineEnding ∷ consume ∷ exit LineEnding ∷ []) (Next HtmlFlowContinuationBefore)))
      ∷ at is_less (when (html_is 1) (row (consume ∷ []) (Next HtmlFlowContinuationRawTagOpen)) (row (consume ∷ []) (Next HtmlFlowContinuation)))
      ∷ at is_dash (when (html_is 2) (row (consume ∷ []) (Next HtmlFlowContinuationCommentInside)) (row (consume ∷ []) (Next HtmlFlowContinuation)))
      ∷ at is_question (when (html_is 3) (row (consume ∷ []) (Next HtmlFlowContinuationDeclarationInside)) (row (consume ∷ []) (Next HtmlFlowContinuation)))
      ∷ at is_greater (when (html_is 4) (row (consume ∷ []) (Next HtmlFlowContinuationClose)) (row (consume ∷ []) (Next HtmlFlowContinuation)))
      ∷ at is_closing (when (html_is 5) (row (consume ∷ []) (Next HtmlFlowContinuationCdataInside)) (row (consume ∷ []) (Next HtmlFlowContinuation))) ∷ [];
  rest = row (consume ∷ []) (Next HtmlFlowContinuation);
}

abbrev pub html_flow_continuation : {R D : Type 0} → StateRows FlowByte R D
html_flow_continuation = record (state HtmlFlowContinuation (cased html_flow_continuation_rows) (HtmlFlow ∷ HtmlFlowData ∷ []) (costs (reading 5))) { begun = at_byte is_in_line }

-- behind a dash in a comment
abbrev pub html_flow_continuation_comment_inside_rows : {R D : Type 0} → Cased R D
html_flow_continuation_comment_inside_rows = record {
  at_end = row [] (Retry HtmlFlowContinuation);
  cases = at is_dash (row (consume ∷ []) (Next HtmlFlowContinuationDeclarationInside)) ∷ [];
  rest = row [] (Retry HtmlFlowContinuation);
}

abbrev pub html_flow_continuation_comment_inside : {R D : Type 0} → StateRows FlowByte R D
html_flow_continuation_comment_inside = state HtmlFlowContinuationCommentInside (cased html_flow_continuation_comment_inside_rows) (HtmlFlow ∷ HtmlFlowData ∷ []) (costs (reading 6))

-- behind a closing bracket in CDATA
abbrev pub html_flow_continuation_cdata_inside_rows : {R D : Type 0} → Cased R D
html_flow_continuation_cdata_inside_rows = record {
  at_end = row [] (Retry HtmlFlowContinuation);
  cases = at is_closing (row (consume ∷ []) (Next HtmlFlowContinuationDeclarationInside)) ∷ [];
  rest = row [] (Retry HtmlFlowContinuation);
}

abbrev pub html_flow_continuation_cdata_inside : {R D : Type 0} → StateRows FlowByte R D
html_flow_continuation_cdata_inside = state HtmlFlowContinuationCdataInside (cased html_flow_continuation_cdata_inside_rows) (HtmlFlow ∷ HtmlFlowData ∷ []) (costs (reading 6))

-- where only a greater-than sign is missing; the mark before it may come once more
abbrev pub html_flow_continuation_declaration_inside_rows : {R D : Type 0} → Cased R D
html_flow_continuation_declaration_inside_rows = record {
  at_end = row [] (Retry HtmlFlowContinuation);
  cases =
      at is_greater (row (consume ∷ []) (Next HtmlFlowContinuationClose))
      ∷ at is_dash (when (html_is 2) (row (consume ∷ []) (Next HtmlFlowContinuationDeclarationInside)) (row [] (Retry HtmlFlowContinuation)))
      ∷ at is_question (when (html_is 3) (row (consume ∷ []) (Next HtmlFlowContinuationDeclarationInside)) (row [] (Retry HtmlFlowContinuation)))
      ∷ at is_closing (when (html_is 5) (row (consume ∷ []) (Next HtmlFlowContinuationDeclarationInside)) (row [] (Retry HtmlFlowContinuation))) ∷ [];
  rest = row [] (Retry HtmlFlowContinuation);
}

abbrev pub html_flow_continuation_declaration_inside : {R D : Type 0} → StateRows FlowByte R D
html_flow_continuation_declaration_inside = state HtmlFlowContinuationDeclarationInside (cased html_flow_continuation_declaration_inside_rows) (HtmlFlow ∷ HtmlFlowData ∷ []) (costs (reading 6))

-- behind a less-than sign in a script and the like
abbrev pub html_flow_continuation_raw_tag_open_rows : {R D : Type 0} → Cased R D
html_flow_continuation_raw_tag_open_rows = record {
  at_end = row [] (Retry HtmlFlowContinuation);
  cases = at is_slash (row (write (size_becomes 0) ∷ consume ∷ []) (Next HtmlFlowContinuationRawEndTag)) ∷ [];
  rest = row [] (Retry HtmlFlowContinuation);
}

abbrev pub html_flow_continuation_raw_tag_open : {R D : Type 0} → StateRows FlowByte R D
html_flow_continuation_raw_tag_open = state HtmlFlowContinuationRawTagOpen (cased html_flow_continuation_raw_tag_open_rows) (HtmlFlow ∷ HtmlFlowData ∷ []) (costs (reading 6))

-- a letter or a digit of such a name
abbrev pub html_flow_continuation_raw_end_tag_goes_on : {R D : Type 0} → (byte : ℕ) → Rows R D
html_flow_continuation_raw_end_tag_goes_on byte = row (write (raw_name_grows byte) ∷ consume ∷ []) (Next HtmlFlowContinuationRawEndTag)

-- in the name of a closing tag there
abbrev pub html_flow_continuation_raw_end_tag_rows : {R D : Type 0} → Cased R D
html_flow_continuation_raw_end_tag_rows = record {
  at_end = row [] (Retry HtmlFlowContinuation);
  cases = at is_greater (when is_raw_tag (row (consume ∷ []) (Next HtmlFlowContinuationClose)) (row [] (Retry HtmlFlowContinuation))) ∷ [];
  rest = row [] (Retry HtmlFlowContinuation);
}

abbrev pub html_flow_continuation_raw_end_tag : {R D : Type 0} → StateRows FlowByte R D
html_flow_continuation_raw_end_tag = state HtmlFlowContinuationRawEndTag (spelled html_flow_continuation_raw_end_tag_goes_on html_flow_continuation_raw_end_tag_rows) (HtmlFlow ∷ HtmlFlowData ∷ []) (costs (reading 6))

-- in the last line, behind the end
abbrev pub html_flow_continuation_close_rows : {R D : Type 0} → Cased R D
html_flow_continuation_close_rows = record {
  at_end = row (exit HtmlFlowData ∷ exit HtmlFlow ∷ []) (Retry FlowAfter);
  cases = at is_line_feed (row (exit HtmlFlowData ∷ exit HtmlFlow ∷ []) (Retry FlowAfter)) ∷ [];
  rest = row (consume ∷ []) (Next HtmlFlowContinuationClose);
}

abbrev pub html_flow_continuation_close : {R D : Type 0} → StateRows FlowByte R D
html_flow_continuation_close = state HtmlFlowContinuationClose (cased html_flow_continuation_close_rows) (HtmlFlow ∷ HtmlFlowData ∷ []) (costs (reading 3))

-- before a further line of HTML
abbrev pub html_flow_continuation_before_rows : {R D : Type 0} → Cased R D
html_flow_continuation_before_rows = record {
  at_end = row (exit HtmlFlow ∷ []) (Retry FlowAfter);
  cases = at is_line_feed (row (enter LineEnding ∷ consume ∷ exit LineEnding ∷ []) (Next HtmlFlowContinuationBefore)) ∷ [];
  rest = row (enter HtmlFlowData ∷ []) (Retry HtmlFlowContinuation);
}

abbrev pub html_flow_continuation_before : {R D : Type 0} → StateRows FlowByte R D
html_flow_continuation_before = state HtmlFlowContinuationBefore (cased html_flow_continuation_before_rows) (HtmlFlow ∷ []) (costs (reading 6))

-- a look at the next line: is it blank?
abbrev pub html_flow_blank_line_before_rows : {R D : Type 0} → Cased R D
html_flow_blank_line_before_rows = record {
  at_end = row [] Ok;
  cases = at is_line_feed (row (consume ∷ []) (Next HtmlFlowBlankLineInside)) ∷ [];
  rest = row [] Ok;
}

abbrev pub html_flow_blank_line_before : {R D : Type 0} → StateRows FlowByte R D
html_flow_blank_line_before = record (state HtmlFlowBlankLineBefore (cased html_flow_blank_line_before_rows) [] (costs (at_next_line 2))) { needs = a_choice; called = at_bytes is_line_feed }

-- a look over white space
abbrev pub html_flow_blank_line_inside_rows : {R D : Type 0} → Cased R D
html_flow_blank_line_inside_rows = record {
  at_end = row [] Ok;
  cases =
      at is_line_feed (row [] Ok)
      ∷ at is_blank (row (consume ∷ []) (Next HtmlFlowBlankLineInside)) ∷ [];
  rest = row [] Nok;
}

abbrev pub html_flow_blank_line_inside : {R D : Type 0} → StateRows FlowByte R D
html_flow_blank_line_inside = record (state HtmlFlowBlankLineInside (cased html_flow_blank_line_inside_rows) [] (costs (looking 1))) { needs = a_choice }

-- at the end of a line before a blank one
abbrev pub html_flow_continuation_after_rows : {R D : Type 0} → Cased R D
html_flow_continuation_after_rows = record {
  at_end = row [] Ok;
  cases = at is_line_feed (row (exit HtmlFlowData ∷ exit HtmlFlow ∷ []) (Retry FlowAfter)) ∷ [];
  rest = row [] Ok;
}

abbrev pub html_flow_continuation_after : {R D : Type 0} → StateRows FlowByte R D
html_flow_continuation_after = record (state HtmlFlowContinuationAfter (cased html_flow_continuation_after_rows) (HtmlFlow ∷ HtmlFlowData ∷ []) (costs (looked 2))) { called = at_bytes is_line_feed }

-- at the end of a line that another one follows
abbrev pub html_flow_continuation_start_rows : {R D : Type 0} → Cased R D
html_flow_continuation_start_rows = record {
  at_end = row [] Ok;
  cases = at is_line_feed (row (exit HtmlFlowData ∷ enter LineEnding ∷ consume ∷ exit LineEnding ∷ []) (Next HtmlFlowContinuationBefore)) ∷ [];
  rest = row [] Ok;
}

abbrev pub html_flow_continuation_start : {R D : Type 0} → StateRows FlowByte R D
html_flow_continuation_start = record (state HtmlFlowContinuationStart (cased html_flow_continuation_start_rows) (HtmlFlow ∷ HtmlFlowData ∷ []) (costs (looked 2))) { called = at_bytes is_line_feed }
