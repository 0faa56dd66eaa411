use Rattle.mdconstructs_tables.proofs.Looks.Known.{checks-are-looks}
use Rattle.mdconstructs_tables.proofs.laws.checks_are_looks.Goals as goal

pub returns : goal.returns
returns g c = checks-are-looks g.L.Looking.looking g.L.Looking.known
