use Rattle.std.proofs.Common.{◌-◌, ◌++◌, Option, map, sym, ap, ◌∙◌, subst}
use Rattle.mdinline_labels.specs.declared.definitions.Stretch.{Stretch}
use Rattle.mdblock_containers.specs.SeatPlaces.{events_of}
use Rattle.mdblock_containers.specs.Views.{open_of}
use Rattle.mdblock_definitions.specs.Cursor.{Goes, left_at, title_length, title_marks}
use Rattle.mdblock_definitions.proofs.MarksCursor.{goes-on}
use Rattle.mdblock_definitions.proofs.MarksParts.{title-written}
use Rattle.mdblock_definitions.proofs.marks.write_title.Goals as goal

pub returns-clause-events : goal.returns-clause-events
returns-clause-events g c =
    let t = c.args.tab in
    let bytes = c.args.bytes.now in
    let stack = map open_of c.args.stack.now in
    let xs = c.args.rows.now in
    let title = c.in-Some.title in
    title-written t bytes stack xs c.args.cursor c.in_ok-begin.begin title c.args.from c.in_ok-begin.ensures.goes c.args.events.now.items _ _ c.in_ok-begin.ensures.events c.in_ok-end.ensures.events
    ∙ ap (λ (o : Option Stretch). c.args.events.now.items ++ events_of (title_marks bytes o c.args.from (left_at t bytes stack xs c.args.cursor))) (sym c.in-Some.is)

pub returns-clause-goes : goal.returns-clause-goes
returns-clause-goes g c =
    let t = c.args.tab in
    let bytes = c.args.bytes.now in
    let stack = map open_of c.args.stack.now in
    let xs = c.args.rows.now in
    let title = c.in-Some.title in
    subst (λ (o : Option Stretch). Goes t bytes stack xs c.args.cursor (title_length o c.args.from) c.in_ok-end.end) (sym c.in-Some.is)
    (goes-on t bytes stack xs c.args.cursor c.in_ok-begin.begin c.in_ok-end.end (title.from - c.args.from) title.size c.in_ok-begin.ensures.goes c.in_ok-end.ensures.goes)
