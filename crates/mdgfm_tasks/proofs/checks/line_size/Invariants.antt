use Rattle.std.proofs.Common.{◌≡◌, ◌+◌, ◌-◌, ◌≤◌, drop, length}
use Rattle.std.specs.List.{prefix_len}
use Rattle.mdblock_lines.specs.Lines.{is_in_line}
use Rattle.mdgfm_tasks.proofs.checks.line_size.Given as goal

-- what was passed, and what is left of the line
abbrev pub invariant-loop-next : goal.invariant-loop-next
invariant-loop-next l = record {
  same : l.next + prefix_len is_in_line (drop l.next l.text) ≡ prefix_len is_in_line l.text;
  room : l.next ≤ length l.text;
}

abbrev pub decreases-loop-next : goal.decreases-loop-next
decreases-loop-next l = length l.text - l.next
