use Rattle.mdconstructs_machines.proofs.Prelude.{refl, rules, callable, fail, as_it_was, text_start}
use Rattle.mdconstructs_machines.proofs.fail.FailMachine.call.Goals as goal

pub text_start-requires : goal.text_start-requires
text_start-requires c =
    let at = c.args.self.now.at in callable (fail at) as_it_was (λ local. refl) c.args.name (text_start at) _ _ (search rules) refl c.requires.invariant.1 c.tick.ensures
