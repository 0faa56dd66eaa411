use Rattle.mdconstructs_tables.proofs.Tables.NoFurther.{steps-alike}
use Rattle.mdconstructs_tables.proofs.laws.planned_machines_look_no_further.Goals as goal

pub returns : goal.returns
returns g c = λ looks one other text k name is alike. steps-alike g.P.Planned.plan.table looks one other _ k name alike
