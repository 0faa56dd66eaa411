use Rattle.mdinline_text_machine.proofs.Prelude.{refl}
use Rattle.mdinline_text_machine.proofs.Plain.Classes.{ended-in}
use Rattle.mdinline_text_machine.proofs.code_span.after_opening.Goals as goal

pub exit-requires : goal.exit-requires
exit-requires g c = (c.requires.called.ends (ended-in c.args.t.now c.requires.other).2).0

pub returns : goal.returns
returns g c = rw (ended-in c.args.t.now c.requires.other).0 (record { answered = refl; became = c.in_ok-exit.ensures.ok })
