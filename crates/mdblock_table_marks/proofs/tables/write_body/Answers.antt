use Rattle.std.proofs.Common.{◌<◌, map, ap, ◌∙◌, arith}
use Rattle.mdblock_containers.specs.Views.{open_of}
use Rattle.mdblock_table_marks.specs.Lines.{last_end}
use Rattle.mdblock_table_marks.proofs.TableWriting.{body-written}
use Rattle.mdblock_table_marks.proofs.tables.write_body.Goals as goal

pub write_line-requires : goal.write_line-requires
write_line-requires g c =
    record { limit = c.requires.limit; stands = c.requires.first.stands; within = c.in_ok-at.ensures.within; place = c.in_ok-at.ensures.place; line = c.as_slice.ensures.value ∙ c.in_ok-at.ensures.line }

pub returns : goal.returns
returns g c =
    let t = c.args.tab in
    let bytes = c.args.bytes.now in
    let some : 0 < t = omega (arith, c.get-tab_size.ensures.least, c.get-tab_size.ensures.columns) in
    record {
      events = body-written t bytes (map open_of c.args.stack.now) some c.requires.limit c.args.first.now c.args.more.now c.args.end c.in_ok-at.at c.in_ok-row.row c.in_ok-last.last c.args.events.now.items c.write_between.new.events.items c.enter.new.events.items
          c.write_line.new.events.items c.write_behind.new.events.items c.exit.new.events.items c.requires.text c.in_ok-at.ensures.events c.in_ok-at.ensures.columns c.in_ok-at.ensures.place c.in_ok-row.ensures.place c.in_ok-last.ensures.end c.in_ok-enter.ensures
          c.in_ok-row.ensures.events c.in_ok-last.ensures.events c.in_ok-exit.ensures;
      end = c.in_ok-last.ensures.end ∙ ap (λ p. last_end t bytes p c.args.more.now) c.in_ok-row.ensures.place;
      turns = omega (arith, c.write_between.ensures.turns, c.write_line.ensures.turns, c.write_behind.ensures.turns);
    }
