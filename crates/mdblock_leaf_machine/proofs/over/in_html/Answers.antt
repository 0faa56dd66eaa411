use Rattle.std.proofs.Common.{[], ◌∷◌, refl}
use Rattle.mdblock_leaf_machine.specs.declared.over.TheConstants.{IN_HTML}
use Rattle.mdblock_leaf_rows.specs.FlowBytes.{is_line_feed, is_less, is_dash, is_question, is_greater, is_closing}
use Rattle.mdblock_leaf_machine.proofs.ByteSets.{pass-none}
use Rattle.mdblock_leaf_machine.proofs.over.in_html.Goals as goal

pub returns-clause-passed : goal.returns-clause-passed
returns-clause-passed c = pass-none (is_line_feed ∷ is_less ∷ is_dash ∷ is_question ∷ is_greater ∷ is_closing ∷ []) IN_HTML refl

pub returns-clause-exact : goal.returns-clause-exact
returns-clause-exact c = refl
