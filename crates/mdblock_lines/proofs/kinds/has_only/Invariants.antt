use Rattle.std.proofs.Common.{length, ◌-◌, ◌+◌, ◌≡◌, ◌≤◌, drop}
use Rattle.std.specs.List.{list_all}
use Rattle.mdblock_lines.specs.Views.{is_mark_or_white}
use Rattle.mdblock_lines.proofs.kinds.has_only.Given as goal

-- what is left says of all
abbrev pub invariant-loop-next : goal.invariant-loop-next
invariant-loop-next g l = (list_all (is_mark_or_white l.mark) (drop l.next l.r) ≡ list_all (is_mark_or_white l.mark) l.r) × (l.next ≤ length l.r) × (l.turns ≤ l.fn.turns + l.next)

abbrev pub decreases-loop-next : goal.decreases-loop-next
decreases-loop-next g l = length l.r - l.next
