-- Looks of leaf blocks are quiet.
use Rattle.std.specs.Prelude.{◌≡◌, ℕ, [], ◌∷◌, cond, Option}
use Rattle.markdown_base.specs.declared.state.Name.{Name}
use Rattle.markdown_base.specs.declared.state.TheConstants.Name.{FlowBeforeRaw, HtmlFlowOpen, HtmlFlowTagCloseStart}
use Rattle.mdconstructs_tables.specs.Quiet.{is_one_of, loud}
use Rattle.mdblock_leaf_rows.specs.FlowBytes.{FlowByte}
use Rattle.mdblock_leaf_rows.specs.FlowKnows.{looks}
use Rattle.mdblock_leaf_rows.specs.FlowTable.{flow}

-- the marks of a fence of grave accents end where its info string is looked at, and a tag begins where its name is: that is a second call at
-- one place
abbrev pub look_rank : Name → ℕ
look_rank name = cond (is_one_of (FlowBeforeRaw ∷ HtmlFlowOpen ∷ HtmlFlowTagCloseStart ∷ []) name) 1 0

-- no state of a look is loud: each only writes, reads bytes, goes on among the others, and ends with Ok or Nok
abbrev pub LooksAreQuiet : Type 0
LooksAreQuiet = (previous current : Option FlowByte) → loud flow looks look_rank previous current ≡ []
