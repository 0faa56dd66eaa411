use Rattle.mdtests_tables.proofs.Prelude.{refl, rules, callable, never-called, counts, starved, text_start}
use Rattle.mdtests_tables.proofs.starved.StarvedMachine.call.Goals as goal

pub text_start-requires : goal.text_start-requires
text_start-requires c = callable starved counts (λ local. refl) c.args.name text_start _ _ (search rules) refl c.requires.invariant.1 c.begin.ensures

pub unreachable-requires : goal.unreachable-requires
unreachable-requires c = never-called starved c.args.name c.args.t.now (search rules) c.requires.invariant.1
