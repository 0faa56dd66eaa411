use Rattle.std.proofs.Common.{◌+◌, arith}
use Rattle.mdblock_containers.proofs.WritingLemmas.{columns_behind, columns_front, place_chain, label_named, label_end, label_events}
use Rattle.mdblock_containers.proofs.writing.footnote_label.Goals as goal

pub span-requires : goal.span-requires
span-requires g c = columns_front c.args.tab c.args.bytes.now c.args.place (c.args.label + 3) 1 c.requires.columns (omega arith)

pub span-requires-2 : goal.span-requires-2
span-requires-2 g c = columns_behind c.args.tab c.args.bytes.now c.args.place c.in_ok-opened.opened (c.args.label + 3) 1 1 c.in_ok-opened.ensures.place c.requires.columns (omega arith)

pub span-requires-3 : goal.span-requires-3
span-requires-3 g c =
    columns_behind c.args.tab c.args.bytes.now c.args.place c.in_ok-start.start (c.args.label + 3) 2 c.args.label
    (place_chain c.args.tab c.args.bytes.now c.args.place c.in_ok-opened.opened c.in_ok-start.start 1 1 c.in_ok-opened.ensures.place c.in_ok-start.ensures.place) c.requires.columns (omega arith)

pub span-requires-4 : goal.span-requires-4
span-requires-4 g c =
    let start = place_chain c.args.tab c.args.bytes.now c.args.place c.in_ok-opened.opened c.in_ok-start.start 1 1 c.in_ok-opened.ensures.place c.in_ok-start.ensures.place in
    columns_behind c.args.tab c.args.bytes.now c.args.place c.in_ok-end.end (c.args.label + 3) (c.args.label + 2) 1
    (label_named c.args.tab c.args.bytes.now c.args.place c.in_ok-start.start c.in_ok-end.end c.args.label start c.in_ok-end.ensures.place) c.requires.columns (omega arith)

pub returns : goal.returns
returns g c = record {
  events = label_events c.args.tab c.args.bytes.now c.args.place c.in_ok-opened.opened c.in_ok-start.start c.in_ok-end.end c.in_ok-closed.closed c.args.label c.in_ok-opened.ensures.place c.in_ok-start.ensures.place
      c.in_ok-end.ensures.place c.in_ok-closed.ensures.place c.args.events.now.items c.span.new.events.items c.span-2.new.events.items c.enter.new.events.items c.span-3.new.events.items c.exit.new.events.items
      c.span-4.new.events.items c.in_ok-opened.ensures.events c.in_ok-start.ensures.events c.in_ok-enter.ensures c.in_ok-end.ensures.events c.in_ok-exit.ensures c.in_ok-closed.ensures.events;
  place = label_end c.args.tab c.args.bytes.now c.args.place c.in_ok-opened.opened c.in_ok-start.start c.in_ok-end.end c.in_ok-closed.closed c.args.label c.in_ok-opened.ensures.place c.in_ok-start.ensures.place
      c.in_ok-end.ensures.place c.in_ok-closed.ensures.place;
  turns = omega (arith, c.span.ensures.turns, c.span-2.ensures.turns, c.span-3.ensures.turns, c.span-4.ensures.turns);
}
