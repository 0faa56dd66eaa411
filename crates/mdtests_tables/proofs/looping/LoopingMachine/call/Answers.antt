use Rattle.mdtests_tables.proofs.Prelude.{refl, rules, callable, never-called, counts}
use Rattle.mdtests_tables.specs.Looping.{looping, text_start, data_inside}
use Rattle.mdtests_tables.proofs.looping.LoopingMachine.call.Goals as goal

pub text_start-requires : goal.text_start-requires
text_start-requires c = callable looping counts (λ local. refl) c.args.name text_start _ _ (search rules) refl c.requires.invariant.1 c.begin.ensures

pub data_inside-requires : goal.data_inside-requires
data_inside-requires c = callable looping counts (λ local. refl) c.args.name data_inside _ _ (search rules) refl c.requires.invariant.1 c.begin.ensures

pub unreachable-requires : goal.unreachable-requires
unreachable-requires c = never-called looping c.args.name c.args.t.now (search rules) c.requires.invariant.1
