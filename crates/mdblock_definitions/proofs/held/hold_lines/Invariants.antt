use Rattle.std.proofs.Common.{◌≡◌, drop, take, ◌≤◌, ◌+◌, ◌*◌}
use Rattle.std.specs.Prelude.{not}
use Rattle.mdblock_containers.specs.Rows.{has_none}
use Rattle.mdblock_definitions.specs.Held.{HaveTexts}
use Rattle.mdblock_definitions.specs.Sections.{text_in}
use Rattle.mdblock_definitions.specs.Costs.{bytes_in}
use Rattle.mdblock_definitions.proofs.held.hold_lines.Given as goal

-- the text of the lines so far
abbrev pub invariant-loop-at : goal.invariant-loop-at
invariant-loop-at g l = record {
  left : HaveTexts l.tab l.bytes (drop l.at-index l.rows) (drop l.at-index g.all);
  text : l.text.items ≡ text_in (take l.at-index g.all);
  goes_on : l.goes_on ≡ not (has_none (take l.at-index g.all));
  turns : l.turns ≤ l.fn.turns + 4 * bytes_in l.tab l.bytes (take l.at-index l.rows);
}
