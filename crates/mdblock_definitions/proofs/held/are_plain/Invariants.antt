use Rattle.std.proofs.Common.{◌≡◌, ◌≤◌, ◌+◌, ◌-◌, length, drop}
use Rattle.std.specs.List.{list_all}
use Rattle.mdblock_containers.specs.Letters.{is_plain}
use Rattle.mdblock_definitions.proofs.held.are_plain.Given as goal

-- what is left says whether all are plain
abbrev pub invariant-loop-next : goal.invariant-loop-next
invariant-loop-next g l = (list_all is_plain (drop l.next l.t) ≡ list_all is_plain l.t) × (l.next ≤ length l.t) × (l.turns ≤ l.fn.turns + l.next)

abbrev pub decreases-loop-next : goal.decreases-loop-next
decreases-loop-next g l = length l.t - l.next
