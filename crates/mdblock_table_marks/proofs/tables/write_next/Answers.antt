use Rattle.std.proofs.Common.{map, ◌∙◌, arith}
use Rattle.mdblock_containers.specs.Views.{open_of}
use Rattle.mdblock_containers.proofs.WritingLemmas.{write-both}
use Rattle.mdblock_table_marks.specs.TableMarks.{marks_between, row_marks}
use Rattle.mdblock_table_marks.proofs.LineLemmas.{next-line}
use Rattle.mdblock_table_marks.proofs.tables.write_next.Goals as goal

pub write_line-requires : goal.write_line-requires
write_line-requires g c =
    record { limit = c.requires.limit; stands = c.requires.further.stands; within = c.in_ok-at.ensures.within; place = c.in_ok-at.ensures.place; line = c.as_slice.ensures.value ∙ c.in_ok-at.ensures.line }

pub returns : goal.returns
returns g c =
    let t = c.args.tab in
    let bytes = c.args.bytes.now in
    let stack = map open_of c.args.stack.now in
    let y = c.args.next.now in
    record {
      events = λ r s n.
          write-both c.args.events.now.items c.write_between.new.events.items c.write_line.new.events.items (marks_between bytes r s) (row_marks bytes c.args.kind s) (c.in_ok-at.ensures.events r s n)
          (c.in_ok-place.ensures.events s (next-line t bytes stack c.args.end r y s n) (c.in_ok-at.ensures.columns r s n));
      place = c.in_ok-place.ensures.place;
      turns = omega (arith, c.write_between.ensures.turns, c.write_line.ensures.turns);
    }
