use Rattle.std.proofs.Common.{◌≤◌, ◌+◌, ◌-◌, List, drop, length}
use Rattle.mdblock_containers.specs.Ahead.{AreRows}
use Rattle.mdblock_containers.specs.Rows.{Row}
use Rattle.mdblock_definitions.proofs.TableScans.{Passed}
use Rattle.mdblock_definitions.proofs.tables.lines_before_table.Given as goal

-- no table begins in the lines so far
abbrev pub invariant-loop-next : goal.invariant-loop-next
invariant-loop-next g l = record {
  within : l.next ≤ length l.rows;
  turns : l.turns ≤ l.fn.turns + l.next;
  passed : (all : List Row) → AreRows l.rows all → Passed all (drop l.next all) l.next;
}

abbrev pub decreases-loop-next : goal.decreases-loop-next
decreases-loop-next g l = length l.rows - l.next
