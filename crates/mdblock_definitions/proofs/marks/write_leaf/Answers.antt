use Rattle.std.proofs.Common.{◌++◌, List, drop, refl, ap, ◌∙◌}
use Rattle.markdown_base.specs.declared.event.Event.{Event}
use Rattle.mdblock_definitions.proofs.MarksCursor.{here-of, leaf-events, leaf-goes}
use Rattle.mdblock_definitions.proofs.MarksCosts.{leaf-paid}
use Rattle.mdblock_definitions.proofs.marks.write_leaf.Goals as goal

pub returns-clause-events : goal.returns-clause-events
returns-clause-events g c = λ stack xs cursor w.
    let here = here-of c.args.tab c.args.bytes.now stack xs c.args.cursor cursor in
    c.in_ok-place.ensures.events ∙ ap (λ (l : List Event). c.args.events.now.items ++ l) (leaf-events c.args.tab c.args.bytes.now stack (drop c.args.cursor.row xs) c.args.cursor.at here c.args.name c.args.columns w)

pub returns-clause-goes : goal.returns-clause-goes
returns-clause-goes g c = λ stack xs cursor w. leaf-goes c.args.tab c.args.bytes.now stack xs c.args.cursor cursor c.args.columns w _ refl refl c.in_ok-place.ensures.place

pub returns-clause-paid : goal.returns-clause-paid
returns-clause-paid g c = λ xs w. leaf-paid xs c.args.cursor c.args.columns w
