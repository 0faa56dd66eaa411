-- Setext headings (CommonMark, 4.3). A look sees an underline; it is read behind a paragraph, which becomes the text of the heading.
use Rattle.std.specs.Prelude.{[], ◌∷◌}
use Rattle.markdown_base.specs.declared.event.Name.TheVariants.{HeadingSetextUnderline, HeadingSetextUnderlineSequence, LineEnding, SpaceOrTab}
use Rattle.markdown_base.specs.declared.state.State.TheVariants.{Next, Retry, Ok, Nok}
use Rattle.markdown_base.specs.declared.state.TheConstants.Name.{FlowAfter, FlowBeforeThematicBreak, FlowBeforeHeadingSetext, HeadingSetextStart, HeadingSetextBefore, HeadingSetextInside, HeadingSetextAfter}
use Rattle.mdblock_leaf_rows.specs.declared.names.TheConstants.{HeadingSetextLookAfter, HeadingSetextTextAfter}
use Rattle.mdconstructs_tables.specs.Cases.{at}
use Rattle.mdconstructs_tables.specs.Rows.{enter, exit, consume, write, Rows, row, when, at_bytes, a_choice, StateRows, costs, state}
use Rattle.mdblock_leaf_rows.specs.FlowBytes.{FlowByte, is_line_feed, is_blank, is_dash, is_underline, Cased, cased}
use Rattle.mdblock_leaf_rows.specs.FlowCosts.{looking, reading, looked}
use Rattle.mdblock_leaf_rows.specs.FlowWrites.{kind_becomes, size_grows, breaks_are_on, at_mark}
use Rattle.mdblock_leaf_rows.specs.HeadingEdits.{heading_ends}

-- a look at the marks of an underline
abbrev pub flow_before_heading_setext_rows : {R D : Type 0} → Cased R D
flow_before_heading_setext_rows = record {
  at_end = row (write (kind_becomes HeadingSetextUnderline) ∷ []) Ok;
  cases =
      at is_line_feed (row (write (kind_becomes HeadingSetextUnderline) ∷ []) Ok)
      ∷ at is_underline (when at_mark (row (write size_grows ∷ consume ∷ []) (Next FlowBeforeHeadingSetext)) (row [] Nok))
      ∷ at is_blank (row (consume ∷ []) (Next HeadingSetextLookAfter)) ∷ [];
  rest = row [] Nok;
}

abbrev pub flow_before_heading_setext : {R D : Type 0} → StateRows FlowByte R D
flow_before_heading_setext = record (state FlowBeforeHeadingSetext (cased flow_before_heading_setext_rows) [] (costs (looking 1))) { needs = a_choice }

-- behind the marks and white space, a dash may still be one of a thematic break
abbrev pub further_dash : {R D : Type 0} → Rows R D
further_dash = when breaks_are_on (when at_mark (row (write size_grows ∷ consume ∷ []) (Next FlowBeforeThematicBreak)) (row [] Nok)) (row [] Nok)

-- a look behind the marks
abbrev pub heading_setext_look_after_rows : {R D : Type 0} → Cased R D
heading_setext_look_after_rows = record {
  at_end = row (write (kind_becomes HeadingSetextUnderline) ∷ []) Ok;
  cases =
      at is_line_feed (row (write (kind_becomes HeadingSetextUnderline) ∷ []) Ok)
      ∷ at is_dash further_dash
      ∷ at is_blank (row (consume ∷ []) (Next HeadingSetextLookAfter)) ∷ [];
  rest = row [] Nok;
}

abbrev pub heading_setext_look_after : {R D : Type 0} → StateRows FlowByte R D
heading_setext_look_after = record (state HeadingSetextLookAfter (cased heading_setext_look_after_rows) [] (costs (looking 1))) { needs = a_choice }

-- behind a paragraph whose next line is an underline
abbrev pub heading_setext_text_after_rows : {R D : Type 0} → Cased R D
heading_setext_text_after_rows = record {
  at_end = row [] Ok;
  cases = at is_line_feed (row (enter LineEnding ∷ consume ∷ exit LineEnding ∷ []) (Next HeadingSetextStart)) ∷ [];
  rest = row [] Ok;
}

abbrev pub heading_setext_text_after : {R D : Type 0} → StateRows FlowByte R D
heading_setext_text_after = record (state HeadingSetextTextAfter (cased heading_setext_text_after_rows) [] (costs (looked 1))) { called = at_bytes is_line_feed }

-- before an underline
abbrev pub heading_setext_start_rows : {R D : Type 0} → Cased R D
heading_setext_start_rows = record {
  at_end = row [] Ok;
  cases =
      at is_line_feed (row [] (Retry FlowAfter))
      ∷ at is_blank (row (enter HeadingSetextUnderline ∷ enter SpaceOrTab ∷ consume ∷ []) (Next HeadingSetextBefore)) ∷ [];
  rest = row (enter HeadingSetextUnderline ∷ enter HeadingSetextUnderlineSequence ∷ consume ∷ []) (Next HeadingSetextInside);
}

abbrev pub heading_setext_start : {R D : Type 0} → StateRows FlowByte R D
heading_setext_start = state HeadingSetextStart (cased heading_setext_start_rows) [] (costs (reading 2))

-- in white space of an underline
abbrev pub heading_setext_before_rows : {R D : Type 0} → Cased R D
heading_setext_before_rows = record {
  at_end = row (exit SpaceOrTab ∷ []) (Retry HeadingSetextAfter);
  cases = at is_blank (row (consume ∷ []) (Next HeadingSetextBefore)) ∷ [];
  rest = row (exit SpaceOrTab ∷ []) (Retry HeadingSetextAfter);
}

abbrev pub heading_setext_before : {R D : Type 0} → StateRows FlowByte R D
heading_setext_before = state HeadingSetextBefore (cased heading_setext_before_rows) (HeadingSetextUnderline ∷ SpaceOrTab ∷ []) (costs (reading 3))

-- in marks of an underline
abbrev pub heading_setext_inside_rows : {R D : Type 0} → Cased R D
heading_setext_inside_rows = record {
  at_end = row (exit HeadingSetextUnderlineSequence ∷ []) (Retry HeadingSetextAfter);
  cases = at is_underline (row (consume ∷ []) (Next HeadingSetextInside)) ∷ [];
  rest = row (exit HeadingSetextUnderlineSequence ∷ []) (Retry HeadingSetextAfter);
}

abbrev pub heading_setext_inside : {R D : Type 0} → StateRows FlowByte R D
heading_setext_inside = state HeadingSetextInside (cased heading_setext_inside_rows) (HeadingSetextUnderline ∷ HeadingSetextUnderlineSequence ∷ []) (costs (reading 3))

-- in an underline, before marks or white space, or at its end: there the heading ends
abbrev pub heading_setext_after_rows : {R D : Type 0} → Cased R D
heading_setext_after_rows = record {
  at_end = row (exit HeadingSetextUnderline ∷ write heading_ends ∷ []) (Retry FlowAfter);
  cases =
      at is_line_feed (row (exit HeadingSetextUnderline ∷ write heading_ends ∷ []) (Retry FlowAfter))
      ∷ at is_blank (row (enter SpaceOrTab ∷ consume ∷ []) (Next HeadingSetextBefore)) ∷ [];
  rest = row (enter HeadingSetextUnderlineSequence ∷ consume ∷ []) (Next HeadingSetextInside);
}

abbrev pub heading_setext_after : {R D : Type 0} → StateRows FlowByte R D
heading_setext_after = state HeadingSetextAfter (cased heading_setext_after_rows) (HeadingSetextUnderline ∷ []) (costs (reading 2))
