use Rattle.mdconstructs_tables.proofs.Tables.Lawful.{plain-lawful, writing-lawful, late-lawful}
use Rattle.mdconstructs_tables.proofs.laws.fitting_tables_are_lawful.Goals as goal

pub returns : goal.returns
returns g c = record {
  plain = λ table fit is g. plain-lawful table g fit is;
  writing = λ table fit writes g. writing-lawful table g fit writes;
  late = λ table early falling is writes g. late-lawful table early falling g is writes;
}
