use Rattle.std.proofs.Common.{◌≡◌, ◌≤◌, ◌+◌, ◌-◌, List, drop, length, ◌*◌, cond, take}
use Rattle.std.specs.Prelude.{false}
use Rattle.mdblock_containers.specs.Rows.{Row}
use Rattle.mdblock_definitions.specs.Sections.{before_defined}
use Rattle.mdblock_definitions.specs.Seen.{AreThese}
use Rattle.mdblock_definitions.specs.Costs.{bytes_in, text_rows}
use Rattle.mdblock_definitions.proofs.sections.find_defined.Given as goal

-- no definitions begin in the lines so far
abbrev pub invariant-loop-before : goal.invariant-loop-before
invariant-loop-before g l = record {
  within : l.before ≤ length l.rows;
  paid : l.turns ≤ l.fn.turns + 45 * bytes_in l.tab l.bytes (take l.before l.rows) + cond l.in_paragraph (21 * bytes_in l.tab l.bytes (text_rows (drop l.before l.rows))) 0;
  sum : (all : List Row) → AreThese l.tab l.bytes l.rows all → l.before + before_defined l.on l.in_paragraph (drop l.before all) ≡ before_defined l.on false all;
}

abbrev pub decreases-loop-before : goal.decreases-loop-before
decreases-loop-before g l = length l.rows - l.before
