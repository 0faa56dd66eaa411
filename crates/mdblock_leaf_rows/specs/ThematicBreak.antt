-- Thematic breaks (CommonMark, 4.1). The look at a line, and its reading.
use Rattle.std.specs.Prelude.{[], ◌∷◌}
use Rattle.markdown_base.specs.declared.event.Name.TheVariants.{SpaceOrTab, ThematicBreak, ThematicBreakSequence as Marks}
use Rattle.markdown_base.specs.declared.state.State.TheVariants.{Next, Retry, Ok, Nok}
use Rattle.markdown_base.specs.declared.state.TheConstants.Name.{FlowAfter, FlowBeforeThematicBreak, ThematicBreakBefore, ThematicBreakAtBreak, ThematicBreakSequence}
use Rattle.mdconstructs_tables.specs.Cases.{at}
use Rattle.mdconstructs_tables.specs.Rows.{enter, exit, consume, write, row, when, a_choice, StateRows, costs, state}
use Rattle.mdblock_leaf_rows.specs.FlowBytes.{FlowByte, is_line_feed, is_blank, is_rule, Cased, cased}
use Rattle.mdblock_leaf_rows.specs.FlowCosts.{looking, reading}
use Rattle.mdblock_leaf_rows.specs.FlowWrites.{kind_becomes, size_grows, has_three, at_mark}

-- a look at the marks of a thematic break
abbrev pub flow_before_thematic_break_rows : {R D : Type 0} → Cased R D
flow_before_thematic_break_rows = record {
  at_end = when has_three (row (write (kind_becomes ThematicBreak) ∷ []) Ok) (row [] Nok);
  cases =
      at is_line_feed (when has_three (row (write (kind_becomes ThematicBreak) ∷ []) Ok) (row [] Nok))
      ∷ at is_rule (when at_mark (row (write size_grows ∷ consume ∷ []) (Next FlowBeforeThematicBreak)) (row [] Nok))
      ∷ at is_blank (row (consume ∷ []) (Next FlowBeforeThematicBreak)) ∷ [];
  rest = row [] Nok;
}

abbrev pub flow_before_thematic_break : {R D : Type 0} → StateRows FlowByte R D
flow_before_thematic_break = record (state FlowBeforeThematicBreak (cased flow_before_thematic_break_rows) [] (costs (looking 1))) { needs = a_choice }

-- in white space of a thematic break
abbrev pub thematic_break_before_rows : {R D : Type 0} → Cased R D
thematic_break_before_rows = record {
  at_end = row (exit SpaceOrTab ∷ []) (Retry ThematicBreakAtBreak);
  cases = at is_blank (row (consume ∷ []) (Next ThematicBreakBefore)) ∷ [];
  rest = row (exit SpaceOrTab ∷ []) (Retry ThematicBreakAtBreak);
}

abbrev pub thematic_break_before : {R D : Type 0} → StateRows FlowByte R D
thematic_break_before = state ThematicBreakBefore (cased thematic_break_before_rows) (ThematicBreak ∷ SpaceOrTab ∷ []) (costs (reading 3))

-- before marks or white space of a thematic break, or at its end
abbrev pub thematic_break_at_break_rows : {R D : Type 0} → Cased R D
thematic_break_at_break_rows = record {
  at_end = row (exit ThematicBreak ∷ []) (Retry FlowAfter);
  cases =
      at is_line_feed (row (exit ThematicBreak ∷ []) (Retry FlowAfter))
      ∷ at is_blank (row (enter SpaceOrTab ∷ consume ∷ []) (Next ThematicBreakBefore)) ∷ [];
  rest = row (enter Marks ∷ consume ∷ []) (Next ThematicBreakSequence);
}

abbrev pub thematic_break_at_break : {R D : Type 0} → StateRows FlowByte R D
thematic_break_at_break = state ThematicBreakAtBreak (cased thematic_break_at_break_rows) (ThematicBreak ∷ []) (costs (reading 2))

-- in marks of a thematic break
abbrev pub thematic_break_sequence_rows : {R D : Type 0} → Cased R D
thematic_break_sequence_rows = record {
  at_end = row (exit Marks ∷ []) (Retry ThematicBreakAtBreak);
  cases = at is_rule (row (consume ∷ []) (Next ThematicBreakSequence)) ∷ [];
  rest = row (exit Marks ∷ []) (Retry ThematicBreakAtBreak);
}

abbrev pub thematic_break_sequence : {R D : Type 0} → StateRows FlowByte R D
thematic_break_sequence = state ThematicBreakSequence (cased thematic_break_sequence_rows) (ThematicBreak ∷ Marks ∷ []) (costs (reading 3))
