use Rattle.std.proofs.Common.{length, ◌-◌, ◌+◌, ◌≡◌, ◌≤◌, drop, false}
use Rattle.mdblock_tables.specs.Tables.{cell_size}
use Rattle.mdblock_tables.proofs.tables.cell_size.Given as goal

-- what was passed, and what is left of the cell
abbrev pub invariant-loop-next : goal.invariant-loop-next
invariant-loop-next g l = (l.next + cell_size l.escaped (drop l.next l.t) ≡ cell_size false l.t) × (l.next ≤ length l.t) × (l.turns ≤ l.fn.turns + l.next)

abbrev pub decreases-loop-next : goal.decreases-loop-next
decreases-loop-next g l = length l.t - l.next
