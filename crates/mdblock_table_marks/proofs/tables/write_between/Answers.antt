use Rattle.std.proofs.Common.{◌≡◌, ◌<◌, ◌++◌, ◌∷◌, [], List, arith, map, take, sym, ap, ◌∙◌, subst}
use Rattle.std.proofs.lemmas.List.{length-map, take-map}
use Rattle.markdown_base.proofs.Common.{every-take}
use Rattle.markdown_base.specs.declared.event.Event.{Event}
use Rattle.markdown_base.specs.declared.event.Kind.TheVariants.{Enter, Exit}
use Rattle.markdown_base.specs.declared.event.Name.TheVariants as name
use Rattle.mdconstructs_machines.specs.LineEvents.{ending_of}
use Rattle.mdblock_leaf_blocks.specs.LeafEvents.{leaf_marks}
use Rattle.mdblock_containers.specs.Costs.{HasSize, HaveSizes}
use Rattle.mdblock_containers.specs.PlaceEvents.{event_at}
use Rattle.mdblock_containers.specs.SeatPlaces.{events_of}
use Rattle.mdblock_containers.specs.Skeleton.{prefixes_marks}
use Rattle.mdblock_containers.specs.Views.{open_of}
use Rattle.mdblock_containers.proofs.WritingLemmas.{write-both}
use Rattle.mdblock_table_marks.specs.Lines.{begin_at}
use Rattle.mdblock_table_marks.proofs.LineLemmas.{bytes-columns, bytes-size, next-marks, next-size, span-events, start-inside}
use Rattle.mdblock_table_marks.proofs.tables.write_between.Goals as goal

pub first_of-front-requires : goal.first_of-front-requires
first_of-front-requires g c = omega (arith, c.requires.further.many, length-map c.args.stack.now open_of)

pub prefixes_of-requires : goal.prefixes_of-requires
prefixes_of-requires g c =
    let t = c.args.tab in
    let bytes = c.args.bytes.now in
    let some : 0 < t = omega (arith, c.get-tab_size.ensures.least, c.get-tab_size.ensures.columns) in
    let stack = c.args.stack.now in
    let y = c.args.next.now in
    let many = y.row.many in
    let front : map open_of c.first_of-front.result.now ≡ take many (map open_of stack) = ap (map open_of) c.first_of-front.ensures ∙ sym (take-map open_of many stack) in
    record {
      inside = start-inside t bytes some c.requires.limit y c.requires.further.stands;
      columns = bytes-columns t bytes some c.requires.limit y c.requires.further.stands;
      sizes = subst HaveSizes (sym front) (every-take HasSize many (map open_of stack) c.requires.further.sizes);
    }

pub returns : goal.returns
returns g c =
    let t = c.args.tab in
    let bytes = c.args.bytes.now in
    let some : 0 < t = omega (arith, c.get-tab_size.ensures.least, c.get-tab_size.ensures.columns) in
    let limit = c.requires.limit in
    let open_ones = c.args.stack.now in
    let stack = map open_of open_ones in
    let y = c.args.next.now in
    let old = c.args.events.now.items in
    let mid = c.write_ending.new.events.items in
    let new = c.prefixes_of.new.events.items in
    let fronts = map open_of c.first_of-front.result.now in
    let front : fronts ≡ take y.row.many stack = ap (map open_of) c.first_of-front.ensures ∙ sym (take-map open_of y.row.many open_ones) in
    let size = bytes-size t bytes some limit y c.requires.further.stands in
    record {
      events = λ r s n.
          let ending = leaf_marks bytes name.LineEnding (ending_of r.line) in
          let first : mid ≡ old ++ events_of ending =
          c.in_ok-write_ending.ensures ∙ (λ k. old ++ (event_at Enter name.LineEnding c.args.end ∷ event_at Exit name.LineEnding (c.start_of.ensures k) ∷ []))
          ∙ ap (λ (l : List Event). old ++ l) (span-events bytes name.LineEnding c.args.end (begin_at y) (ending_of r.line) [] n.ending n.some) in
          write-both old mid new ending (prefixes_marks bytes s.went_on s.line) first (next-marks t bytes some limit stack c.args.end r y s n fronts front mid new c.in_ok-at.ensures.marks);
      columns = λ r s n. next-size t bytes some limit stack c.args.end r y s n fronts front c.in_ok-at.at.columns c.in_ok-at.ensures.columns;
      within = omega (arith, c.in_ok-at.ensures.within, size);
      place = c.in_ok-at.ensures.place;
      line = c.in_ok-at.ensures.line;
      turns = omega (arith, c.prefixes_of.ensures.turns, size);
    }

pub returns-in_err-at-clause-turns : goal.returns-in_err-at-clause-turns
returns-in_err-at-clause-turns g c =
    let t = c.args.tab in
    let some : 0 < t = omega (arith, c.get-tab_size.ensures.least, c.get-tab_size.ensures.columns) in
    let size = bytes-size t c.args.bytes.now some c.requires.limit c.args.next.now c.requires.further.stands in
    omega (arith, c.prefixes_of.ensures.turns, size)
