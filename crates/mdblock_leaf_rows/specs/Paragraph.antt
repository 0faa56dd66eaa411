-- Paragraphs (CommonMark, 4.8). Each line is a chunk of text, linked to the chunk before, with its line ending but for the last.
use Rattle.std.specs.Prelude.{[], ◌∷◌}
use Rattle.markdown_base.specs.declared.event.Name.TheVariants.{Data, HeadingSetextUnderline, Paragraph}
use Rattle.markdown_base.specs.declared.state.State.TheVariants.{Next, Retry, Ok}
use Rattle.markdown_base.specs.declared.state.TheConstants.Name.{FlowAfter, FlowBeforeContent, ParagraphStart, ParagraphInside, ParagraphLineStart}
use Rattle.mdblock_leaf_rows.specs.declared.names.TheConstants.{ParagraphLookStart, HeadingSetextTextAfter, ParagraphLineAfter}
use Rattle.markdown_tokenizer.specs.declared.waiting.AttemptKind.TheVariants.{Check}
use Rattle.mdconstructs_tables.specs.Cases.{at}
use Rattle.mdconstructs_tables.specs.Chunks.{alone, chunk_before, connected, is_connected, last_event}
use Rattle.mdconstructs_tables.specs.Rows.{enter, enter_link, exit, consume, links, write, choose, row, when, at_byte, at_bytes, StateRows, costs, state}
use Rattle.mdconstructs_tables.specs.Paragraphs.{text_link}
use Rattle.mdblock_leaf_rows.specs.FlowBytes.{FlowByte, is_line_feed, is_in_line, Cased, cased}
use Rattle.mdblock_leaf_rows.specs.FlowCosts.{reading, looked}
use Rattle.mdblock_leaf_rows.specs.FlowWrites.{kind_is}
use Rattle.mdblock_leaf_rows.specs.HeadingEdits.{paragraph_begins, paragraph_ends}
use Rattle.mdblock_leaf_rows.specs.HtmlWrites.{is_passed_over}

-- a paragraph begins
abbrev pub flow_before_content_rows : {R D : Type 0} → Cased R D
flow_before_content_rows = record {
  at_end = row (enter Paragraph ∷ write alone ∷ write paragraph_begins ∷ []) (Retry ParagraphStart);
  cases = [];
  rest = row (enter Paragraph ∷ write alone ∷ write paragraph_begins ∷ []) (Retry ParagraphStart);
}

abbrev pub flow_before_content : {R D : Type 0} → StateRows FlowByte R D
flow_before_content = record (state FlowBeforeContent (cased flow_before_content_rows) [] (costs (reading 8))) { called = at_bytes is_in_line }

-- before a line of a paragraph
abbrev pub paragraph_start_rows : {R D : Type 0} → Cased R D
paragraph_start_rows = record {
  at_end = row (exit Paragraph ∷ []) (Retry FlowAfter);
  cases = at is_line_feed (row (exit Paragraph ∷ []) (Retry FlowAfter)) ∷ [];
  rest = when is_connected (row (enter_link Data text_link ∷ links chunk_before last_event ∷ write connected ∷ []) (Retry ParagraphInside)) (row (enter_link Data text_link ∷ write connected ∷ []) (Retry ParagraphInside));
}

abbrev pub paragraph_start : {R D : Type 0} → StateRows FlowByte R D
paragraph_start = record (state ParagraphStart (cased paragraph_start_rows) (Paragraph ∷ []) (costs (reading 7))) { begun = at_byte is_in_line }

-- in a line of a paragraph
abbrev pub paragraph_inside_rows : {R D : Type 0} → Cased R D
paragraph_inside_rows = record {
  at_end = row (exit Data ∷ exit Paragraph ∷ []) (Retry FlowAfter);
  cases = at is_line_feed (row (choose Check (Next ParagraphLineStart) (Next ParagraphLineAfter) ∷ []) (Retry ParagraphLookStart)) ∷ [];
  rest = row (consume ∷ []) (Next ParagraphInside);
}

abbrev pub paragraph_inside : {R D : Type 0} → StateRows FlowByte R D
paragraph_inside = record (state ParagraphInside (cased paragraph_inside_rows) (Paragraph ∷ Data ∷ []) (costs (reading 6))) { begun = at_byte is_in_line }

-- at the end of a line whose next line has a kind: the paragraph goes on over an indented one, and over HTML of kind 7; an underline makes a
-- heading
abbrev pub paragraph_line_start_rows : {R D : Type 0} → Cased R D
paragraph_line_start_rows = record {
  at_end = row [] Ok;
  cases = at is_line_feed (when is_passed_over (row [] (Retry ParagraphLineAfter)) (when (kind_is HeadingSetextUnderline) (row (exit Data ∷ exit Paragraph ∷ write paragraph_ends ∷ []) (Retry HeadingSetextTextAfter)) (row (exit Data ∷ exit Paragraph ∷ []) (Retry FlowAfter)))) ∷ [];
  rest = row [] Ok;
}

abbrev pub paragraph_line_start : {R D : Type 0} → StateRows FlowByte R D
paragraph_line_start = record (state ParagraphLineStart (cased paragraph_line_start_rows) (Paragraph ∷ Data ∷ []) (costs (looked 2))) { called = at_bytes is_line_feed }

-- at the end of a line of a paragraph that goes on
abbrev pub paragraph_line_after_rows : {R D : Type 0} → Cased R D
paragraph_line_after_rows = record {
  at_end = row [] Ok;
  cases = at is_line_feed (row (consume ∷ exit Data ∷ []) (Next ParagraphStart)) ∷ [];
  rest = row [] Ok;
}

abbrev pub paragraph_line_after : {R D : Type 0} → StateRows FlowByte R D
paragraph_line_after = record (state ParagraphLineAfter (cased paragraph_line_after_rows) (Paragraph ∷ Data ∷ []) (costs (looked 1))) { called = at_bytes is_line_feed }
