use Rattle.std.proofs.Common.{map, take}
use Rattle.mdblock_containers.specs.Views.{open_of}
use Rattle.markdown_base.specs.declared.event.Name.TheVariants.{DefinitionDestinationRaw, DefinitionDestinationString}
use Rattle.mdblock_definitions.specs.Cursor.{left_at}
use Rattle.mdblock_definitions.specs.Definitions.{string}
use Rattle.mdblock_definitions.proofs.MarksCursor.{write-span}
use Rattle.mdblock_definitions.proofs.marks.write_raw.Goals as goal

pub returns-clause-events : goal.returns-clause-events
returns-clause-events g c =
    let t = c.args.tab in
    let bytes = c.args.bytes.now in
    let stack = map open_of c.args.stack.now in
    let xs = c.args.rows.now in
    write-span t bytes stack xs c.args.cursor c.in_ok-end.end c.args.size DefinitionDestinationRaw (string bytes DefinitionDestinationString (take c.args.size (left_at t bytes stack xs c.args.cursor))) c.requires.cursor
    c.in_ok-end.ensures.goes c.requires.some c.requires.size c.args.events.now.items _ _ _ c.in_ok-enter.ensures c.in_ok-end.ensures.events c.in_ok-exit.ensures
