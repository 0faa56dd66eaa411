use Rattle.std.proofs.Common.{◌≡◌, ◌≤◌, ◌+◌, ◌-◌, length, drop}
use Rattle.std.specs.List.{prefix_len}
use Rattle.mdblock_containers.specs.Letters.{is_plain}
use Rattle.mdblock_containers.proofs.texts.plain_size.Given as goal

-- what was passed, and what is left of the bytes before a tab or a line ending
abbrev pub invariant-loop-next : goal.invariant-loop-next
invariant-loop-next g l = (l.next + prefix_len is_plain (drop l.next l.t) ≡ prefix_len is_plain l.t) × (l.next ≤ length l.t) × (l.turns ≤ l.fn.turns + l.next)

abbrev pub decreases-loop-next : goal.decreases-loop-next
decreases-loop-next g l = length l.t - l.next
