use Rattle.mdconstructs_tables.proofs.Tables.Twins.{twins-read-alike}
use Rattle.mdconstructs_tables.proofs.laws.twins_read_alike.Goals as goal

pub returns : goal.returns
returns g c = twins-read-alike
