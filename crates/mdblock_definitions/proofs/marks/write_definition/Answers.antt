use Rattle.std.proofs.Common.{map, take}
use Rattle.mdblock_containers.specs.Views.{open_of}
use Rattle.markdown_base.specs.declared.event.Name.TheVariants.{Definition}
use Rattle.mdblock_definitions.specs.Cursor.{left_at}
use Rattle.mdblock_definitions.specs.Definitions.{parts_marks}
use Rattle.mdblock_definitions.proofs.MarksCursor.{write-span}
use Rattle.mdblock_definitions.proofs.MarksParts.{definition-some}
use Rattle.mdblock_definitions.proofs.marks.write_definition.Goals as goal

pub returns-clause-events : goal.returns-clause-events
returns-clause-events g c =
    let t = c.args.tab in
    let bytes = c.args.bytes.now in
    let stack = map open_of c.args.stack.now in
    let xs = c.args.rows.now in
    let d = c.args.definition in
    write-span t bytes stack xs c.args.cursor c.in_ok-end.end d.size Definition (parts_marks bytes d (take d.size (left_at t bytes stack xs c.args.cursor))) c.requires.cursor c.in_ok-end.ensures.goes
    (definition-some t bytes stack xs c.args.cursor d c.requires.fits) c.requires.fits.within c.args.events.now.items _ _ _ c.in_ok-enter.ensures c.in_ok-end.ensures.events c.in_ok-exit.ensures
