use Rattle.std.proofs.Common.{◌≡◌, ◌≤◌, ◌+◌, ◌-◌, length, drop}
use Rattle.std.specs.List.{prefix_len}
use Rattle.mdblock_definitions.specs.Seen.{is_text_at}
use Rattle.mdblock_definitions.proofs.sections.paragraph_size.Given as goal

-- what was passed, and what is left of the paragraph
abbrev pub invariant-loop-next : goal.invariant-loop-next
invariant-loop-next g l = (l.next + prefix_len is_text_at (drop l.next l.rows) ≡ prefix_len is_text_at l.rows) × (l.next ≤ length l.rows) × (l.turns ≤ l.fn.turns + l.next)

abbrev pub decreases-loop-next : goal.decreases-loop-next
decreases-loop-next g l = length l.rows - l.next
