use Rattle.std.proofs.Common.{length, ◌-◌, ◌+◌, ◌*◌, ◌≡◌, ◌≤◌, drop, false}
use Rattle.mdblock_tables.specs.Tables.{alignments_of, contents, counted, cut}
use Rattle.mdblock_tables.proofs.tables.count_delimiters.Given as goal

-- the cells that were counted, and what is left says of all
abbrev pub invariant-loop-next : goal.invariant-loop-next
invariant-loop-next g l =
    (counted l.count (alignments_of (contents (cut false (drop l.next l.row)))) ≡ counted 0 (alignments_of (contents (cut false l.row))))
    × (l.next ≤ length l.row + 1) × (l.count ≤ l.next) × (l.turns ≤ l.fn.turns + 3 * l.next)

abbrev pub decreases-loop-next : goal.decreases-loop-next
decreases-loop-next g l = length l.row + 1 - l.next
