use Rattle.std.proofs.Common.{refl, rules}
use Rattle.mdconstructs_tables.proofs.Rows.Calls.{callable}
use Rattle.mdtests_tables.specs.Over.{over, writes_nothing, text_start, data_inside}
use Rattle.mdtests_tables.proofs.over.OverMachine.call.Goals as goal

pub text_start-requires : goal.text_start-requires
text_start-requires c = callable over writes_nothing (λ local. refl) c.args.name text_start _ _ (search rules) refl c.requires.invariant.1 c.tick.ensures

pub data_inside-requires : goal.data_inside-requires
data_inside-requires c = callable over writes_nothing (λ local. refl) c.args.name data_inside _ _ (search rules) refl c.requires.invariant.1 c.tick.ensures
