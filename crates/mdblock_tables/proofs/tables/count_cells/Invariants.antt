use Rattle.std.proofs.Common.{length, ◌-◌, ◌+◌, ◌*◌, ◌≡◌, ◌≤◌, drop, false}
use Rattle.mdblock_tables.specs.Tables.{contents, cut}
use Rattle.mdblock_tables.proofs.tables.count_cells.Given as goal

-- the cells that were counted, and those that are left
abbrev pub invariant-loop-next : goal.invariant-loop-next
invariant-loop-next g l =
    (l.count + length (contents (cut false (drop l.next l.row))) ≡ length (contents (cut false l.row)))
    × (l.next ≤ length l.row + 1) × (l.count ≤ l.next) × (l.turns ≤ l.fn.turns + 2 * l.next)

abbrev pub decreases-loop-next : goal.decreases-loop-next
decreases-loop-next g l = length l.row + 1 - l.next
