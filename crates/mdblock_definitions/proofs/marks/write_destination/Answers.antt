use Rattle.std.proofs.Common.{cond, ◌++◌, map, take, sym, ap, ◌∙◌}
use Rattle.mdblock_containers.specs.Views.{open_of}
use Rattle.markdown_base.specs.declared.event.Name.TheVariants.{DefinitionDestination, DefinitionDestinationLiteral, DefinitionDestinationLiteralMarker, DefinitionDestinationRaw, DefinitionDestinationString}
use Rattle.mdblock_containers.specs.SeatPlaces.{events_of}
use Rattle.mdblock_definitions.specs.Cursor.{left_at}
use Rattle.mdblock_definitions.specs.Definitions.{marked, span, string}
use Rattle.mdblock_definitions.proofs.MarksCursor.{write-span}
use Rattle.mdblock_definitions.proofs.MarksParts.{begins-front}
use Rattle.mdblock_definitions.proofs.marks.write_destination.Goals as goal

pub returns-clause-events : goal.returns-clause-events
returns-clause-events g c =
    let t = c.args.tab in
    let bytes = c.args.bytes.now in
    let stack = map open_of c.args.stack.now in
    let xs = c.args.rows.now in
    let left = left_at t bytes stack xs c.args.cursor in
    let places = take c.args.size left in
    let literal = span bytes DefinitionDestinationLiteral places (marked bytes DefinitionDestinationLiteralMarker DefinitionDestinationString places) in
    let raw = span bytes DefinitionDestinationRaw places (string bytes DefinitionDestinationString places) in
    let same = c.requires.marks ∙ sym (begins-front 60 c.args.size left c.requires.fits.some) in
    write-span t bytes stack xs c.args.cursor c.in_ok-end.end c.args.size DefinitionDestination (cond c.args.is_marked literal raw) c.requires.cursor c.in_ok-end.ensures.goes c.requires.fits.some c.requires.fits.within
    c.args.events.now.items _ _ _ c.in_ok-enter.ensures c.in_ok-end.ensures.events c.in_ok-exit.ensures
    ∙ ap (λ b. c.args.events.now.items ++ events_of (span bytes DefinitionDestination places (cond b literal raw))) same
