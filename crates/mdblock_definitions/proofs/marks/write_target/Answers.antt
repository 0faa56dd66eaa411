use Rattle.std.proofs.Common.{cond, ◌++◌, map, take, sym, ap, ◌∙◌}
use Rattle.mdblock_containers.specs.Views.{open_of}
use Rattle.markdown_base.specs.declared.event.Name.TheVariants.{DefinitionDestinationLiteral, DefinitionDestinationLiteralMarker, DefinitionDestinationRaw, DefinitionDestinationString}
use Rattle.mdblock_containers.specs.SeatPlaces.{events_of}
use Rattle.mdblock_definitions.specs.Cursor.{left_at}
use Rattle.mdblock_definitions.specs.Definitions.{marked, span, string}
use Rattle.mdblock_definitions.proofs.marks.write_target.Goals as goal

pub returns-then-not-is_marked-clause-events : goal.returns-then-not-is_marked-clause-events
returns-then-not-is_marked-clause-events g c =
    let t = c.args.tab in
    let bytes = c.args.bytes.now in
    let stack = map open_of c.args.stack.now in
    let xs = c.args.rows.now in
    let places = take c.args.size (left_at t bytes stack xs c.args.cursor) in
    c.in_ok-raw.ensures.events
    ∙ ap
    (λ b. c.args.events.now.items
    ++ events_of
    (cond b (span bytes DefinitionDestinationLiteral places (marked bytes DefinitionDestinationLiteralMarker DefinitionDestinationString places)) (span bytes DefinitionDestinationRaw places (string bytes DefinitionDestinationString places))))
    (sym c.if-not-is_marked.true)

pub write_marked-requires : goal.write_marked-requires
write_marked-requires g c = record { cursor = c.requires.cursor; marks = c.requires.fits.marks (sym c.requires.marks ∙ c.if-not-is_marked.false) }

pub returns-clause-events : goal.returns-clause-events
returns-clause-events g c =
    let t = c.args.tab in
    let bytes = c.args.bytes.now in
    let stack = map open_of c.args.stack.now in
    let xs = c.args.rows.now in
    let places = take c.args.size (left_at t bytes stack xs c.args.cursor) in
    c.in_ok-end.ensures.events
    ∙ ap
    (λ b. c.args.events.now.items
    ++ events_of
    (cond b (span bytes DefinitionDestinationLiteral places (marked bytes DefinitionDestinationLiteralMarker DefinitionDestinationString places)) (span bytes DefinitionDestinationRaw places (string bytes DefinitionDestinationString places))))
    (sym c.if-not-is_marked.false)
