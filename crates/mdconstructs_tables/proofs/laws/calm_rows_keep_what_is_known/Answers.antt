use Rattle.mdconstructs_tables.proofs.Calm.{calm-rows-keep, calm-cases-keep}
use Rattle.mdconstructs_tables.proofs.laws.calm_rows_keep_what_is_known.Goals as goal

pub returns : goal.returns
returns g c = record {
  rows = calm-rows-keep g.C.Calm.table g.C.Calm.knows g.C.Calm.harmless g.C.Calm.calmness;
  cases = calm-cases-keep g.C.Calm.table g.C.Calm.knows g.C.Calm.harmless g.C.Calm.calmness;
}
