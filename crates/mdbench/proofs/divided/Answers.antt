use Rattle.mdbench.proofs.Prelude.{ℕ, sym, subst, All, EndsBelow}
use Rattle.mdbench.proofs.divided.Goals as goal

pub child_edits-requires-clause-ends : goal.child_edits-requires-clause-ends
child_edits-requires-clause-ends c = subst (λ (n : ℕ). All (EndsBelow n) c.in_ok-child.child.items) (sym c.in_ok-child.ensures.len) c.in_ok-child.ensures.ends
