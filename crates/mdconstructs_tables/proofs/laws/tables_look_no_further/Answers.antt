use Rattle.mdconstructs_tables.proofs.Tables.NoFurther.{steps-alike}
use Rattle.mdconstructs_tables.proofs.laws.tables_look_no_further.Goals as goal

pub returns : goal.returns
returns g c = record {
  table = λ table looks one other text k name is alike. steps-alike table looks one other _ k name alike;
  late = λ table early falling looks one other text k name is alike. steps-alike table looks one other _ k name alike;
}
