use Rattle.mdconstructs_machines.proofs.Prelude.{ap, ◌∙◌, with_local, at_configuration, counts}
use Rattle.mdconstructs_machines.proofs.begin.begin.Goals as goal

pub returns : goal.returns
returns g c =
    rw c.saturating_add-t-inside.ensures (ap (λ v. at_configuration v (with_local v.configuration (counts v.configuration.local))) (c.t.view_is ∙ c.tick.ensures))
