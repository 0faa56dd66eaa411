use Rattle.std.proofs.Common.{◌-◌, ◌+◌, length, refl, arith}
use Rattle.mdblock_containers.proofs.WritingLemmas.{columns_behind, columns_front, place_chain, quote_end, quote_events}
use Rattle.mdblock_containers.proofs.writing.quote_prefix.Goals as goal

pub white-requires : goal.white-requires
white-requires g c = columns_front c.args.tab c.args.bytes.now c.args.place (length c.args.t.now) c.indent-columns.result c.requires.columns c.indent-columns.ensures.within

pub span-requires : goal.span-requires
span-requires g c =
    columns_behind c.args.tab c.args.bytes.now c.args.place c.in_ok-start.start (length c.args.t.now) c.indent-columns.result 1 c.in_ok-start.ensures.place c.requires.columns (omega (arith, c.requires.marker, c.indent-columns.ensures.value))

pub white-requires-2 : goal.white-requires-2
white-requires-2 g c =
    columns_behind c.args.tab c.args.bytes.now c.args.place c.in_ok-marked.marked (length c.args.t.now) (c.indent-columns.result + 1) (length c.args.t.now - c.indent-columns.result - 1)
    (place_chain c.args.tab c.args.bytes.now c.args.place c.in_ok-start.start c.in_ok-marked.marked c.indent-columns.result 1 c.in_ok-start.ensures.place c.in_ok-marked.ensures.place) c.requires.columns
    (omega (arith, c.requires.marker, c.indent-columns.ensures.value))

pub returns : goal.returns
returns g c =
    let n = c.indent-columns.result in
    let rest = length c.args.t.now - n - 1 in
    record {
      events = quote_events c.args.tab c.args.bytes.now c.args.place c.in_ok-start.start c.in_ok-marked.marked c.in_ok-end.end c.args.t.now n rest c.indent-columns.ensures.value refl c.requires.marker c.in_ok-start.ensures.place
          c.in_ok-marked.ensures.place c.in_ok-end.ensures.place c.args.events.now.items c.white.new.events.items c.enter.new.events.items c.span.new.events.items c.white-2.new.events.items c.exit.new.events.items
          c.in_ok-start.ensures.events c.in_ok-enter.ensures c.in_ok-marked.ensures.events c.in_ok-end.ensures.events c.in_ok-exit.ensures;
      place = quote_end c.args.tab c.args.bytes.now c.args.place c.in_ok-start.start c.in_ok-marked.marked c.in_ok-end.end c.args.t.now n rest c.indent-columns.ensures.value refl c.requires.marker c.in_ok-start.ensures.place
          c.in_ok-marked.ensures.place c.in_ok-end.ensures.place;
      turns = omega (arith, c.requires.marker, c.indent-columns.ensures.value, c.indent-columns.ensures.turns, c.white.ensures.turns, c.span.ensures.turns, c.white-2.ensures.turns);
    }
