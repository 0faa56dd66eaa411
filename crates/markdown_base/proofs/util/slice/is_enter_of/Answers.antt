use Rattle.markdown_base.proofs.util.slice.is_enter_of.Goals as goal
use Rattle.markdown_base.proofs.util.slice.is_enter_of.Goals.{in-Enter, in_default}

pub returns-then-matches : goal.returns-then-matches
returns-then-matches c = elim c.match-matches.branch [
  | in-Enter w ↦ rw w.in-Enter.is c.eq.ensures
  | in_default w ↦ cc
]
