use Rattle.std.proofs.Common.{◌≡◌, take, false}
use Rattle.mdblock_table_marks.proofs.CellLemmas.{done, enters-last}
use Rattle.mdblock_table_marks.proofs.cells.link_cells.Given as goal

-- the events so far are done, and the others are as they were
abbrev pub invariant-loop-event : goal.invariant-loop-event
invariant-loop-event l = record {
  done : l.events ≡ done l.event-index l.fn.events;
  is_cell : l.is_cell ≡ enters-last false (take l.event-index l.fn.events);
}
