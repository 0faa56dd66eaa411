use Rattle.markdown.specs.declared.event.Content.TheVariants.{String, Text}
use Rattle.mdtests_machines.proofs.Prelude.{Some, given_of}
use Rattle.mdtests_machines.proofs.subtokenize.read_texts.Goals as goal

pub put-requires-clause-ready : goal.put-requires-clause-ready
put-requires-clause-ready c = c.all_chains_are_ready.ensures _ _ _ c.requires.ready Text

pub returns-in-Ok : goal.returns-in-Ok
returns-in-Ok c =
    let each = c.all_chains_are_ready.ensures _ _ _ c.requires.ready in
    c.other_chains_stay_ready_after_texts.ensures (given_of c.args.parse_state.now) _ (each Text) c.requires.document (Some String) _ _ (each String) c.in-Ok.ensures
