use Rattle.mdconstructs_machines.proofs.Prelude.{sym, ◌∙◌}
use Rattle.mdconstructs_machines.proofs.wrap.rename.Goals as goal

pub returns-then-eq : goal.returns-then-eq
returns-then-eq c = rw (sym c.eq.ensures ∙ c.if-eq.true)
