use Rattle.std.proofs.Common.{◌≤◌, ◌+◌, ◌-◌, ◌*◌, List, drop, length, take}
use Rattle.std.specs.List.{flat_map}
use Rattle.mdblock_containers.specs.Rows.{Row}
use Rattle.mdblock_containers.specs.Skeleton.{Part}
use Rattle.mdblock_table_marks.specs.TableCuts.{cut_at_tables}
use Rattle.mdblock_definitions.specs.Costs.{bytes_in}
use Rattle.mdblock_definitions.specs.Sections.{is_in_table, sections_of_cut}
use Rattle.mdblock_definitions.specs.Seen.{AreThese}
use Rattle.mdblock_definitions.proofs.TableScans.{TablesCut}
use Rattle.mdblock_definitions.proofs.sections.sections_with_tables.Given as goal

-- the sections of the lines so far, up to behind a table
abbrev pub invariant-loop-i : goal.invariant-loop-i
invariant-loop-i g l = record {
  within : l.i ≤ length l.rows;
  paid : l.turns ≤ l.fn.turns + 96 * bytes_in l.tab l.bytes (take l.i l.rows);
  cut : (all : List Row) → AreThese l.tab l.bytes l.rows all → (around : Part) → TablesCut l.on around l.sections.items (drop l.i all) (flat_map (sections_of_cut l.on around) (cut_at_tables is_in_table (length all) all));
}

abbrev pub decreases-loop-i : goal.decreases-loop-i
decreases-loop-i g l = length l.rows - l.i
