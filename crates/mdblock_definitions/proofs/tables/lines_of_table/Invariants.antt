use Rattle.std.proofs.Common.{◌≤◌, ◌+◌, ◌-◌, List, drop, length}
use Rattle.mdblock_containers.specs.Ahead.{AreRows}
use Rattle.mdblock_containers.specs.Rows.{Row}
use Rattle.mdblock_definitions.proofs.TableScans.{InTable}
use Rattle.mdblock_definitions.proofs.tables.lines_of_table.Given as goal

-- the lines so far are in the table
abbrev pub invariant-loop-next : goal.invariant-loop-next
invariant-loop-next g l = record {
  some : 1 ≤ l.next;
  within : l.next ≤ length l.rows;
  turns : l.turns + 1 ≤ l.fn.turns + l.next;
  inside : (all : List Row) → AreRows l.rows all → InTable all (drop l.next all) l.next;
}

abbrev pub decreases-loop-next : goal.decreases-loop-next
decreases-loop-next g l = length l.rows - l.next
