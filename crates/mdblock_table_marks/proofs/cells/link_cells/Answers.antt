use Rattle.std.proofs.Common.{◌<◌, ◌≤◌, length, slice_set, ap, ◌∙◌, arith}
use Rattle.mdblock_table_marks.proofs.CellLemmas.{done-all, done-length, done-more, enters-more}
use Rattle.mdblock_table_marks.proofs.cells.link_cells.Goals as goal

pub loop-event-preserved : goal.loop-event-preserved
loop-event-preserved c =
    let i = c.loop-event.event-index in
    let xs = c.args.events.now in
    let is = c.loop-event.invariant in
    let lt : i < length xs = omega (arith, c.loop-event-test.true, ap length is.done, done-length i xs) in
    record {
      done = ap (slice_set c.loop-event.events i) c.link_cell-is_cell.ensures.event ∙ done-more c.loop-event.events xs i _ c.loop-event.is_cell is.done is.is_cell lt;
      is_cell = c.link_cell-is_cell.ensures.enters ∙ enters-more c.loop-event.events xs i _ is.done lt;
    }

pub returns : goal.returns
returns c =
    let i = c.loop-event.event-index in
    let xs = c.args.events.now in
    let all : length xs ≤ i = omega (arith, c.loop-event-test.false, ap length c.loop-event.invariant.done, done-length i xs) in
    c.loop-event.invariant.done ∙ done-all i xs all
