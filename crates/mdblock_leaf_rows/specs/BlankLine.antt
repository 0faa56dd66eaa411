-- Blank lines (CommonMark, 4.9).
use Rattle.std.specs.Prelude.{[], ◌∷◌}
use Rattle.markdown_base.specs.declared.event.Name.TheVariants.{BlankLineEnding, SpaceOrTab}
use Rattle.markdown_base.specs.declared.state.State.TheVariants.{Next, Ok}
use Rattle.markdown_base.specs.declared.state.TheConstants.Name.{FlowStart, BlankLineStart}
use Rattle.mdconstructs_tables.specs.Cases.{at}
use Rattle.mdconstructs_tables.specs.Rows.{enter, exit, consume, row, StateRows, costs, state}
use Rattle.mdblock_leaf_rows.specs.FlowBytes.{FlowByte, is_line_feed, is_blank, Cased, cased}
use Rattle.mdblock_leaf_rows.specs.FlowCosts.{reading}

-- in the white space of a blank line
abbrev pub blank_line_start_rows : {R D : Type 0} → Cased R D
blank_line_start_rows = record {
  at_end = row (exit SpaceOrTab ∷ []) Ok;
  cases =
      at is_blank (row (consume ∷ []) (Next BlankLineStart))
      ∷ at is_line_feed (row (exit SpaceOrTab ∷ enter BlankLineEnding ∷ consume ∷ exit BlankLineEnding ∷ []) (Next FlowStart)) ∷ [];
  rest = row (consume ∷ []) (Next BlankLineStart);
}

abbrev pub blank_line_start : {R D : Type 0} → StateRows FlowByte R D
blank_line_start = state BlankLineStart (cased blank_line_start_rows) (SpaceOrTab ∷ []) (costs (reading 1))
