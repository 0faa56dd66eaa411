use Rattle.mdconstructs_tables.proofs.Unlinked.{unlinked-lawful}
use Rattle.mdconstructs_tables.proofs.laws.unlinked_tables_are_lawful.Goals as goal

pub returns : goal.returns
returns g c = λ table fit h g. unlinked-lawful table g fit h
