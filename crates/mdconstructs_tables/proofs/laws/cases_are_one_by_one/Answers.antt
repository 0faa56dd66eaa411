use Rattle.mdconstructs_tables.proofs.Cases.{in-case}
use Rattle.mdconstructs_tables.proofs.laws.cases_are_one_by_one.Goals as goal

pub returns : goal.returns
returns g c = λ cs rest each w. in-case g.P.Property.holds cs rest each w
