use Rattle.std.proofs.Common.{◌≡◌, ◌≤◌, ◌<◌, ◌+◌, ◌-◌, ◌++◌, ℕ, false, drop, length, map, take}
use Rattle.mdblock_containers.specs.SeatPlaces.{events_of}
use Rattle.mdblock_containers.specs.Views.{open_of}
use Rattle.mdblock_definitions.specs.Costs.{left_to_write}
use Rattle.mdblock_definitions.specs.Cursor.{Goes, IsCursor, IsHeld, columns_left, left_at}
use Rattle.mdblock_definitions.specs.Definitions.{line_marks, string_lines}
use Rattle.mdblock_definitions.proofs.marks.write_further_lines.Given as goal

-- what is left of the string, and what is written of it
abbrev pub invariant-loop-rest : goal.invariant-loop-rest
invariant-loop-rest g l = record {
  cursor : IsCursor l.tab l.bytes (map open_of l.stack) l.rows l.here;
  left : l.rest ≤ length (left_at l.tab l.bytes (map open_of l.stack) l.rows l.here);
  fewer : l.rest ≤ l.fn.size;
  some : 1 ≤ l.rest;
  few : l.columns ≤ l.rest;
  fits : l.columns ≤ columns_left l.here.at.columns (drop l.here.row l.rows);
  full : l.columns < l.rest → l.columns ≡ columns_left l.here.at.columns (drop l.here.row l.rows);
  held : IsHeld l.tab l.bytes (drop l.here.row l.rows) l.line.items;
  goes : Goes l.tab l.bytes (map open_of l.stack) l.rows l.fn.cursor (l.fn.size - l.rest) l.here;
  paid : l.turns + left_to_write l.rows l.here ≤ l.fn.turns + left_to_write l.rows l.fn.cursor;
  events : (j : ℕ) → j ≤ 1
      → l.events.items ++ events_of (line_marks l.bytes false (string_lines (take (l.rest - j) (left_at l.tab l.bytes (map open_of l.stack) l.rows l.here))))
      ≡ l.initial.events.items ++ events_of (line_marks l.bytes false (string_lines (take (l.fn.size - j) (left_at l.tab l.bytes (map open_of l.stack) l.rows l.fn.cursor))));
}

abbrev pub decreases-loop-rest : goal.decreases-loop-rest
decreases-loop-rest g l = l.rest
