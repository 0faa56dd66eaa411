use Rattle.std.proofs.Common.{◌≡◌, ◌≤◌, ◌+◌, ◌-◌, ◌*◌, ◌++◌, List, drop, length, map}
use Rattle.mdblock_containers.specs.Costs.{columns_in}
use Rattle.mdblock_containers.specs.Rows.{Row}
use Rattle.mdblock_containers.specs.SeatPlaces.{events_of}
use Rattle.mdblock_containers.specs.Views.{open_of}
use Rattle.mdblock_table_marks.specs.Lines.{AreNext, last_end}
use Rattle.mdblock_table_marks.specs.TableMarks.{marks_behind}
use Rattle.mdblock_table_marks.proofs.TableWriting.{IsLeft}
use Rattle.mdblock_table_marks.proofs.tables.write_behind.Given as goal

-- the rows that are left, behind the place where the last ended
abbrev pub invariant-loop-i : goal.invariant-loop-i
invariant-loop-i g l = record {
  left : (r : Row) (rs : List Row) → AreNext l.tab l.bytes (map open_of l.stack) l.fn.end r l.rows rs
      → IsLeft l.tab l.bytes (map open_of l.stack) l.place (drop l.i l.rows) l.events.items (l.fn.events.items ++ events_of (marks_behind l.bytes r rs));
  end : last_end l.tab l.bytes l.place (drop l.i l.rows) ≡ last_end l.tab l.bytes l.fn.end l.rows;
  turns : l.turns + 25 * columns_in (drop l.i l.rows) ≤ l.fn.turns + 25 * columns_in l.rows;
}

abbrev pub decreases-loop-i : goal.decreases-loop-i
decreases-loop-i g l = length l.rows - l.i
