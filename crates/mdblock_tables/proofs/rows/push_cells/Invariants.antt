use Rattle.std.proofs.Common.{length, ◌-◌, ◌+◌, ◌*◌, ◌++◌, ◌≡◌, ◌≤◌, drop, false}
use Rattle.mdblock_tables.specs.Pieces.{told}
use Rattle.mdblock_tables.specs.TablePieces.{cells_pieces}
use Rattle.mdblock_tables.specs.Tables.{cut}
use Rattle.mdblock_tables.proofs.rows.push_cells.Given as goal

-- the cells so far, and those that are left
abbrev pub invariant-loop-next : goal.invariant-loop-next
invariant-loop-next g l = record {
  built : l.pieces.items ++ told (cells_pieces l.kind l.before (cut false (drop l.next l.row))) ≡ l.fn.pieces.items ++ told (cells_pieces l.kind l.divider (cut false l.row));
  divider : l.before ≤ 1;
  within : l.next ≤ length l.row + 1;
  turns : l.turns ≤ l.fn.turns + 3 * l.next;
}

abbrev pub decreases-loop-next : goal.decreases-loop-next
decreases-loop-next g l = length l.row + 1 - l.next
