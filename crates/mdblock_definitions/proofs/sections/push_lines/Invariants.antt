use Rattle.std.proofs.Common.{◌≤◌, ◌-◌, ◌++◌, List, drop, length, ◌+◌}
use Rattle.mdblock_containers.specs.Ahead.{AreRows}
use Rattle.mdblock_containers.specs.Rows.{Row}
use Rattle.mdblock_containers.specs.Skeleton.{Part}
use Rattle.mdblock_definitions.specs.Sections.{Section, undefined}
use Rattle.mdblock_definitions.specs.Seen.{AreSections}
use Rattle.mdblock_definitions.proofs.SectionLemmas.{Pushed}
use Rattle.mdblock_definitions.proofs.sections.push_lines.Given as goal

abbrev pub invariant-loop-i : goal.invariant-loop-i
invariant-loop-i g l = record {
  within : l.i ≤ length l.rows;
  turns : l.turns ≤ l.fn.turns + l.i;
  pushed : (all : List Row) → AreRows l.rows all → (around : Part) → (before : List Section) → AreSections l.fn.sections.items before → Pushed l.sections.items l.behind (drop l.i all) around (before ++ undefined l.is_behind around all);
}

abbrev pub decreases-loop-i : goal.decreases-loop-i
decreases-loop-i g l = length l.rows - l.i
