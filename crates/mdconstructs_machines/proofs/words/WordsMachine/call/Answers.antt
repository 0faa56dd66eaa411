use Rattle.mdconstructs_machines.proofs.Prelude.{◌≡◌, [], rules, sym, subst}
use Rattle.mdconstructs_machines.specs.Laws.Words.{known-before}
use Rattle.mdconstructs_machines.proofs.words.WordsMachine.call.Goals as goal

pub text_start-requires-clause-no_edits : goal.text_start-requires-clause-no_edits
text_start-requires-clause-no_edits c =
    subst (λ t. t.configuration.local.map ≡ []) (sym c.begin.ensures)
    (known-before c.args.t.now.configuration.events c.args.t.now.configuration.local c.args.t.now.choices c.args.name.number (search rules) c.requires.invariant.known)
