use Rattle.std.proofs.Common.{◌-◌, ◌+◌, length, refl, arith}
use Rattle.mdblock_containers.proofs.WritingLemmas.{columns_behind, columns_front, footnote_named, footnote_marked, footnote_end, footnote_events}
use Rattle.mdblock_containers.proofs.writing.footnote_prefix.Goals as goal

pub white-requires : goal.white-requires
white-requires g c = columns_front c.args.tab c.args.bytes.now c.args.place (length c.args.t.now) c.indent-columns.result c.requires.columns c.indent-columns.ensures.within

pub footnote_label-requires : goal.footnote_label-requires
footnote_label-requires g c = record {
  columns = columns_behind c.args.tab c.args.bytes.now c.args.place c.in_ok-start.start (length c.args.t.now) c.indent-columns.result (c.args.label + 3) c.in_ok-start.ensures.place c.requires.columns
      (omega (arith, c.requires.marker, c.indent-columns.ensures.value));
}

pub span-requires : goal.span-requires
span-requires g c =
    columns_behind c.args.tab c.args.bytes.now c.args.place c.in_ok-named.named (length c.args.t.now) (c.indent-columns.result + c.args.label + 3) 1
    (footnote_named c.args.tab c.args.bytes.now c.args.place c.in_ok-start.start c.in_ok-named.named c.indent-columns.result c.args.label c.in_ok-start.ensures.place c.in_ok-named.ensures.place) c.requires.columns
    (omega (arith, c.requires.marker, c.indent-columns.ensures.value))

pub white-requires-2 : goal.white-requires-2
white-requires-2 g c =
    let named = footnote_named c.args.tab c.args.bytes.now c.args.place c.in_ok-start.start c.in_ok-named.named c.indent-columns.result c.args.label c.in_ok-start.ensures.place c.in_ok-named.ensures.place in
    columns_behind c.args.tab c.args.bytes.now c.args.place c.in_ok-marked.marked (length c.args.t.now) (c.indent-columns.result + c.args.label + 4) (length c.args.t.now - c.indent-columns.result - c.args.label - 4)
    (footnote_marked c.args.tab c.args.bytes.now c.args.place c.in_ok-named.named c.in_ok-marked.marked c.indent-columns.result c.args.label named c.in_ok-marked.ensures.place) c.requires.columns
    (omega (arith, c.requires.marker, c.indent-columns.ensures.value))

pub returns : goal.returns
returns g c =
    let n = c.indent-columns.result in
    let rest = length c.args.t.now - n - c.args.label - 4 in
    record {
      events = footnote_events c.args.tab c.args.bytes.now c.args.place c.in_ok-start.start c.in_ok-named.named c.in_ok-marked.marked c.in_ok-end.end c.args.t.now n c.args.label rest c.indent-columns.ensures.value refl
          c.requires.marker c.in_ok-start.ensures.place c.in_ok-named.ensures.place c.in_ok-marked.ensures.place c.in_ok-end.ensures.place c.args.events.now.items c.white.new.events.items c.enter.new.events.items
          c.enter-2.new.events.items c.footnote_label.new.events.items c.exit.new.events.items c.span.new.events.items c.white-2.new.events.items c.exit-2.new.events.items c.in_ok-start.ensures.events c.in_ok-enter.ensures c.in_ok-enter-2.ensures
          c.in_ok-named.ensures.events c.in_ok-exit.ensures c.in_ok-marked.ensures.events c.in_ok-end.ensures.events c.in_ok-exit-2.ensures;
      place = footnote_end c.args.tab c.args.bytes.now c.args.place c.in_ok-start.start c.in_ok-named.named c.in_ok-marked.marked c.in_ok-end.end c.args.t.now n c.args.label rest c.indent-columns.ensures.value refl
          c.requires.marker c.in_ok-start.ensures.place c.in_ok-named.ensures.place c.in_ok-marked.ensures.place c.in_ok-end.ensures.place;
      turns = omega (arith, c.requires.marker, c.indent-columns.ensures.value, c.indent-columns.ensures.turns, c.white.ensures.turns, c.footnote_label.ensures.turns, c.span.ensures.turns, c.white-2.ensures.turns);
    }
