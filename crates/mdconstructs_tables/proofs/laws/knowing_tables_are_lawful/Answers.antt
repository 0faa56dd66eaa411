use Rattle.mdconstructs_tables.proofs.Tables.Knowledge.{falling-lawful}
use Rattle.mdconstructs_tables.proofs.Tables.Late.{all-late}
use Rattle.mdconstructs_tables.proofs.Tables.Lawful.{knowing-lawful}
use Rattle.mdconstructs_tables.specs.RowTest.{never}
use Rattle.mdconstructs_tables.proofs.laws.knowing_tables_are_lawful.Goals as goal

pub returns : goal.returns
returns g c = record {
  falling = λ falling late knows known h. falling-lawful g.K.Knowledge.table g.K.Knowledge.knows falling h late.fit (all-late g.K.Knowledge.table never falling h late) knows known;
  fitting = λ fit known h. knowing-lawful g.K.Knowledge.table g.K.Knowledge.knows h fit known;
}
