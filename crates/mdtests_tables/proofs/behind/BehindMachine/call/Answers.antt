use Rattle.mdtests_tables.proofs.Prelude.{refl, rules, callable, never-called, counts}
use Rattle.mdtests_tables.specs.Behind.{behind, text_start, data_start, data_inside, paragraph_inside}
use Rattle.mdtests_tables.proofs.behind.BehindMachine.call.Goals as goal

pub text_start-requires : goal.text_start-requires
text_start-requires c = callable behind counts (λ local. refl) c.args.name text_start _ _ (search rules) refl c.requires.invariant.1 c.begin.ensures

pub data_start-requires : goal.data_start-requires
data_start-requires c = callable behind counts (λ local. refl) c.args.name data_start _ _ (search rules) refl c.requires.invariant.1 c.begin.ensures

pub data_inside-requires : goal.data_inside-requires
data_inside-requires c = callable behind counts (λ local. refl) c.args.name data_inside _ _ (search rules) refl c.requires.invariant.1 c.begin.ensures

pub paragraph_inside-requires : goal.paragraph_inside-requires
paragraph_inside-requires c = callable behind counts (λ local. refl) c.args.name paragraph_inside _ _ (search rules) refl c.requires.invariant.1 c.begin.ensures

pub unreachable-requires : goal.unreachable-requires
unreachable-requires c = never-called behind c.args.name c.args.t.now (search rules) c.requires.invariant.1
