use Rattle.std.proofs.Common.{ap, ◌∙◌}
use Rattle.std.specs.Option.{is_some}
use Rattle.mdexamples.proofs.Opened.{nearest, span-at}
use Rattle.mdexamples.proofs.texts.text_at.Goals as goal

pub from_exit_event-position-requires : goal.from_exit_event-position-requires
from_exit_event-position-requires c =
    let e = c.requires.ends in record { opened = ap is_some (nearest c.args.events.now c.args.index e.0 c.requires.balanced e.1 e.2).is }

pub from_position-requires : goal.from_position-requires
from_position-requires c =
    let p = c.from_exit_event-position in
    let s = span-at c.args.tab_size c.args.bytes.now c.args.events.now c.args.index c.requires.ends c.requires.balanced c.requires.at_places c.requires.in_order
    p.result.start.now p.result.end.now p.ensures.start p.ensures.end in
    record { start_is_place = s.start_is_place; end_is_place = s.end_is_place; ordered = s.ordered }

pub returns : goal.returns
returns c =
    let p = c.from_exit_event-position in
    c.from_position.ensures.bytes ∙ (span-at c.args.tab_size c.args.bytes.now c.args.events.now c.args.index c.requires.ends c.requires.balanced c.requires.at_places c.requires.in_order
    p.result.start.now p.result.end.now p.ensures.start p.ensures.end).text
