use Rattle.std.proofs.Common.{◌≤◌, ◌+◌, ◌*◌, ◌-◌, length}
use Rattle.std.specs.List.{AllByRecursion}
use Rattle.markdown_base.specs.Virtual.{virtual}
use Rattle.mdconstructs_machines.specs.LineEvents.{lines_in}
use Rattle.mdblock_containers.specs.Costs.{columns_in}
use Rattle.mdblock_containers.specs.Over.{AreOver}
use Rattle.mdblock_containers.specs.Rows.{rows}
use Rattle.mdblock_containers.specs.Spans.{ArePlaced}
use Rattle.mdblock_containers.specs.Views.{before_of}
use Rattle.mdblock_containers.proofs.DocumentRows.{AreRowsBefore, rows_left}
use Rattle.mdblock_containers.proofs.RowFacts.{BeganBefore}
use Rattle.mdblock_containers.proofs.lines.rows_of.Given as goal

abbrev pub invariant-loop-start : goal.invariant-loop-start
invariant-loop-start g l = record {
  within : l.start ≤ length l.bytes;
  depth : l.before.depth ≤ length l.before.stack.items;
  over : AreOver (length l.found.items + 1) l.before.over l.before.depth l.before.stack.items;
  began : AllByRecursion (BeganBefore (length l.found.items + 1)) (before_of l.before).stack;
  placed : ArePlaced l.tab l.bytes 1 0 l.found.items l.start;
  turns : l.turns + l.before.over ≤ l.fn.turns + 1652 * columns_in l.found.items;
  found : AreRowsBefore l.found.items (rows_left l.on l.tab l.bytes (before_of l.before) (length l.found.items + 1) l.start) (rows l.on (lines_in (virtual l.tab l.bytes)));
}

abbrev pub decreases-loop-start : goal.decreases-loop-start
decreases-loop-start g l = length l.bytes - l.start
