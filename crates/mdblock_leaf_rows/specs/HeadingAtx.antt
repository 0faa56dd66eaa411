-- ATX headings (CommonMark, 4.2). The look at a line, and its reading. The look counts how many bytes the text has, so that reading needs no
-- look for the closing number signs.
use Rattle.std.specs.Prelude.{[], ◌∷◌}
use Rattle.markdown_base.specs.declared.event.Name.TheVariants.{Data, HeadingAtx, HeadingAtxSequence, HeadingAtxText, SpaceOrTab}
use Rattle.markdown_base.specs.declared.state.State.TheVariants.{Next, Retry, Ok, Nok}
use Rattle.markdown_base.specs.declared.state.TheConstants.Name.{FlowAfter, FlowBeforeHeadingAtx, HeadingAtxStart, HeadingAtxSequenceOpen, HeadingAtxAtBreak, HeadingAtxBefore, HeadingAtxData}
use Rattle.mdblock_leaf_rows.specs.declared.names.TheConstants.{HeadingAtxLookStart, HeadingAtxLookText, HeadingAtxLookBlank, HeadingAtxLookSigns, HeadingAtxLookAfter}
use Rattle.mdconstructs_tables.specs.Cases.{at}
use Rattle.mdconstructs_tables.specs.Rows.{enter, enter_link, exit, consume, write, Rows, row, when, a_choice, StateRows, costs, state}
use Rattle.mdconstructs_tables.specs.Paragraphs.{text_link}
use Rattle.mdblock_leaf_rows.specs.FlowBytes.{FlowByte, is_line_feed, is_blank, is_sign, Cased, cased}
use Rattle.mdblock_leaf_rows.specs.FlowCosts.{looking, reading}
use Rattle.mdblock_leaf_rows.specs.FlowWrites.{kind_becomes, size_becomes, size_grows, count_becomes, count_grows, text_grows, signs_end, signs_were_text, has_room, has_text, is_in_text}

-- text begins, or the closing number signs
abbrev pub text_or_signs : {R D : Type 0} → Rows R D
text_or_signs = when has_text (row (enter HeadingAtxText ∷ enter_link Data text_link ∷ write (count_becomes 1) ∷ consume ∷ []) (Next HeadingAtxData)) (row (enter HeadingAtxSequence ∷ consume ∷ []) (Next HeadingAtxSequenceOpen))

-- the text goes on, or ends
abbrev pub text_goes_on : {R D : Type 0} → Rows R D
text_goes_on = when is_in_text (row (write count_grows ∷ consume ∷ []) (Next HeadingAtxData)) (row (exit Data ∷ exit HeadingAtxText ∷ write (size_becomes 0) ∷ []) (Retry HeadingAtxAtBreak))

-- a look at the number signs of a heading
abbrev pub flow_before_heading_atx_rows : {R D : Type 0} → Cased R D
flow_before_heading_atx_rows = record {
  at_end = row (write (kind_becomes HeadingAtx) ∷ write (size_becomes 0) ∷ []) Ok;
  cases =
      at is_line_feed (row (write (kind_becomes HeadingAtx) ∷ write (size_becomes 0) ∷ []) Ok)
      ∷ at is_blank (row (write (kind_becomes HeadingAtx) ∷ write (size_becomes 0) ∷ write (count_becomes 0) ∷ consume ∷ []) (Next HeadingAtxLookStart))
      ∷ at is_sign (when has_room (row (write size_grows ∷ consume ∷ []) (Next FlowBeforeHeadingAtx)) (row [] Nok)) ∷ [];
  rest = row [] Nok;
}

abbrev pub flow_before_heading_atx : {R D : Type 0} → StateRows FlowByte R D
flow_before_heading_atx = record (state FlowBeforeHeadingAtx (cased flow_before_heading_atx_rows) [] (costs (looking 1))) { needs = a_choice }

-- a look over the white space before the text
abbrev pub heading_atx_look_start_rows : {R D : Type 0} → Cased R D
heading_atx_look_start_rows = record {
  at_end = row [] Ok;
  cases =
      at is_line_feed (row [] Ok)
      ∷ at is_blank (row (consume ∷ []) (Next HeadingAtxLookStart))
      ∷ at is_sign (row (write count_grows ∷ consume ∷ []) (Next HeadingAtxLookSigns)) ∷ [];
  rest = row (write text_grows ∷ consume ∷ []) (Next HeadingAtxLookText);
}

abbrev pub heading_atx_look_start : {R D : Type 0} → StateRows FlowByte R D
heading_atx_look_start = record (state HeadingAtxLookStart (cased heading_atx_look_start_rows) [] (costs (looking 1))) { needs = a_choice }

-- a look in the text
abbrev pub heading_atx_look_text_rows : {R D : Type 0} → Cased R D
heading_atx_look_text_rows = record {
  at_end = row [] Ok;
  cases = at is_line_feed (row [] Ok) ∷ at is_blank (row (write count_grows ∷ consume ∷ []) (Next HeadingAtxLookBlank)) ∷ [];
  rest = row (write text_grows ∷ consume ∷ []) (Next HeadingAtxLookText);
}

abbrev pub heading_atx_look_text : {R D : Type 0} → StateRows FlowByte R D
heading_atx_look_text = record (state HeadingAtxLookText (cased heading_atx_look_text_rows) [] (costs (looking 1))) { needs = a_choice }

-- a look at white space in or behind the text
abbrev pub heading_atx_look_blank_rows : {R D : Type 0} → Cased R D
heading_atx_look_blank_rows = record {
  at_end = row [] Ok;
  cases =
      at is_line_feed (row [] Ok)
      ∷ at is_blank (row (write count_grows ∷ consume ∷ []) (Next HeadingAtxLookBlank))
      ∷ at is_sign (row (write count_grows ∷ consume ∷ []) (Next HeadingAtxLookSigns)) ∷ [];
  rest = row (write text_grows ∷ consume ∷ []) (Next HeadingAtxLookText);
}

abbrev pub heading_atx_look_blank : {R D : Type 0} → StateRows FlowByte R D
heading_atx_look_blank = record (state HeadingAtxLookBlank (cased heading_atx_look_blank_rows) [] (costs (looking 1))) { needs = a_choice }

-- a look at number signs behind white space: they end the heading, if nothing follows
abbrev pub heading_atx_look_signs_rows : {R D : Type 0} → Cased R D
heading_atx_look_signs_rows = record {
  at_end = row [] Ok;
  cases =
      at is_line_feed (row [] Ok)
      ∷ at is_blank (row (write signs_end ∷ consume ∷ []) (Next HeadingAtxLookAfter))
      ∷ at is_sign (row (write count_grows ∷ consume ∷ []) (Next HeadingAtxLookSigns)) ∷ [];
  rest = row (write text_grows ∷ consume ∷ []) (Next HeadingAtxLookText);
}

abbrev pub heading_atx_look_signs : {R D : Type 0} → StateRows FlowByte R D
heading_atx_look_signs = record (state HeadingAtxLookSigns (cased heading_atx_look_signs_rows) [] (costs (looking 1))) { needs = a_choice }

-- a look at white space behind such number signs
abbrev pub heading_atx_look_after_rows : {R D : Type 0} → Cased R D
heading_atx_look_after_rows = record {
  at_end = row [] Ok;
  cases =
      at is_line_feed (row [] Ok)
      ∷ at is_blank (row (write count_grows ∷ consume ∷ []) (Next HeadingAtxLookAfter))
      ∷ at is_sign (row (write signs_were_text ∷ consume ∷ []) (Next HeadingAtxLookSigns)) ∷ [];
  rest = row (write text_grows ∷ consume ∷ []) (Next HeadingAtxLookText);
}

abbrev pub heading_atx_look_after : {R D : Type 0} → StateRows FlowByte R D
heading_atx_look_after = record (state HeadingAtxLookAfter (cased heading_atx_look_after_rows) [] (costs (looking 1))) { needs = a_choice }

-- in white space before a heading
abbrev pub heading_atx_start_rows : {R D : Type 0} → Cased R D
heading_atx_start_rows = record {
  at_end = row (exit SpaceOrTab ∷ []) (Retry HeadingAtxAtBreak);
  cases =
      at is_blank (row (consume ∷ []) (Next HeadingAtxStart))
      ∷ at is_sign (row (exit SpaceOrTab ∷ enter HeadingAtxSequence ∷ consume ∷ []) (Next HeadingAtxSequenceOpen)) ∷ [];
  rest = row (exit SpaceOrTab ∷ []) (Retry HeadingAtxAtBreak);
}

abbrev pub heading_atx_start : {R D : Type 0} → StateRows FlowByte R D
heading_atx_start = state HeadingAtxStart (cased heading_atx_start_rows) (HeadingAtx ∷ SpaceOrTab ∷ []) (costs (reading 3))

-- in number signs
abbrev pub heading_atx_sequence_open_rows : {R D : Type 0} → Cased R D
heading_atx_sequence_open_rows = record {
  at_end = row (exit HeadingAtxSequence ∷ []) (Retry HeadingAtxAtBreak);
  cases = at is_sign (row (consume ∷ []) (Next HeadingAtxSequenceOpen)) ∷ [];
  rest = row (exit HeadingAtxSequence ∷ []) (Retry HeadingAtxAtBreak);
}

abbrev pub heading_atx_sequence_open : {R D : Type 0} → StateRows FlowByte R D
heading_atx_sequence_open = state HeadingAtxSequenceOpen (cased heading_atx_sequence_open_rows) (HeadingAtx ∷ HeadingAtxSequence ∷ []) (costs (reading 3))

-- before white space, text or number signs of a heading, or at its end
abbrev pub heading_atx_at_break_rows : {R D : Type 0} → Cased R D
heading_atx_at_break_rows = record {
  at_end = row (exit HeadingAtx ∷ []) (Retry FlowAfter);
  cases = at is_line_feed (row (exit HeadingAtx ∷ []) (Retry FlowAfter)) ∷ at is_blank (row (enter SpaceOrTab ∷ consume ∷ []) (Next HeadingAtxBefore)) ∷ [];
  rest = text_or_signs;
}

abbrev pub heading_atx_at_break : {R D : Type 0} → StateRows FlowByte R D
heading_atx_at_break = state HeadingAtxAtBreak (cased heading_atx_at_break_rows) (HeadingAtx ∷ []) (costs (reading 2))

-- in white space of a heading
abbrev pub heading_atx_before_rows : {R D : Type 0} → Cased R D
heading_atx_before_rows = record {
  at_end = row (exit SpaceOrTab ∷ []) (Retry HeadingAtxAtBreak);
  cases = at is_blank (row (consume ∷ []) (Next HeadingAtxBefore)) ∷ [];
  rest = row (exit SpaceOrTab ∷ []) (Retry HeadingAtxAtBreak);
}

abbrev pub heading_atx_before : {R D : Type 0} → StateRows FlowByte R D
heading_atx_before = state HeadingAtxBefore (cased heading_atx_before_rows) (HeadingAtx ∷ SpaceOrTab ∷ []) (costs (reading 3))

-- in the text of a heading, which has as many bytes as the look counted
abbrev pub heading_atx_data_rows : {R D : Type 0} → Cased R D
heading_atx_data_rows = record {
  at_end = row (exit Data ∷ exit HeadingAtxText ∷ exit HeadingAtx ∷ []) (Retry FlowAfter);
  cases = at is_line_feed (row (exit Data ∷ exit HeadingAtxText ∷ exit HeadingAtx ∷ []) (Retry FlowAfter)) ∷ [];
  rest = text_goes_on;
}

abbrev pub heading_atx_data : {R D : Type 0} → StateRows FlowByte R D
heading_atx_data = state HeadingAtxData (cased heading_atx_data_rows) (HeadingAtx ∷ HeadingAtxText ∷ Data ∷ []) (costs (reading 3))
