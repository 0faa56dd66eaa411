use Rattle.std.proofs.Common.{List, ◌++◌, ap, ◌∙◌}
use Rattle.markdown_base.specs.declared.event.Event.{Event}
use Rattle.mdblock_containers.proofs.SeatLemmas.{begun_is_marks}
use Rattle.mdblock_containers.proofs.writing.begun_prefix.Goals as goal

pub returns-clause-marks : goal.returns-clause-marks
returns-clause-marks g c = λ list seats at text.
    c.in_ok-end.ensures.events ∙ ap (λ (l : List Event). c.args.events.now.items ++ l) (begun_is_marks c.args.tab c.args.bytes.now list c.args.c.now c.args.place seats c.args.t.now at text c.requires.quote c.requires.item c.requires.footnote)
