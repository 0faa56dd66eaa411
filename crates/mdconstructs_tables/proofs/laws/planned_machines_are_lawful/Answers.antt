use Rattle.mdconstructs_tables.proofs.Tables.Lawful.{planned-lawful}
use Rattle.mdconstructs_tables.proofs.laws.planned_machines_are_lawful.Goals as goal

pub returns : goal.returns
returns g c = λ sound h. planned-lawful g.P.Planned.plan h sound
