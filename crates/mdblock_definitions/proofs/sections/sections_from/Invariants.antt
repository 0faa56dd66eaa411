use Rattle.std.proofs.Common.{◌≤◌, ◌-◌, List, drop, length, ◌≡◌, ◌+◌, ◌*◌, take}
use Rattle.std.specs.Prelude.{false, true}
use Rattle.mdblock_containers.specs.Rows.{Row}
use Rattle.mdblock_containers.specs.Skeleton.{Part}
use Rattle.mdblock_definitions.specs.Sections.{sections_in, defined_in}
use Rattle.mdblock_definitions.specs.Seen.{AreThese}
use Rattle.mdblock_definitions.proofs.SectionLemmas.{Cut}
use Rattle.mdblock_definitions.specs.Costs.{bytes_in, text_rows}
use Rattle.mdblock_definitions.proofs.sections.sections_from.Given as goal

abbrev pub invariant-loop-i : goal.invariant-loop-i
invariant-loop-i g l = record {
  within : l.i ≤ length l.rows;
  paid : l.turns + (45 * bytes_in l.tab l.bytes (take l.fn.first.before l.rows) + 45 * bytes_in l.tab l.bytes (text_rows (drop l.fn.first.before l.rows))) ≤ l.fn.turns + 93 * bytes_in l.tab l.bytes (take l.i l.rows) + 45 * bytes_in l.tab l.bytes (text_rows (drop l.i l.rows));
  nothing : (all : List Row) → AreThese l.tab l.bytes l.rows all → defined_in l.on (drop l.i all) ≡ 0;
  cut : (all : List Row) → AreThese l.tab l.bytes l.rows all → (around : Part) → Cut l.on l.sections.items true (drop l.i all) around (sections_in l.on (length all) false around all);
}

abbrev pub decreases-loop-i : goal.decreases-loop-i
decreases-loop-i g l = length l.rows - l.i
