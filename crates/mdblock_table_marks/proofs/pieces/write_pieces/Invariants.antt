use Rattle.std.proofs.Common.{◌≡◌, ◌≤◌, ◌+◌, ◌++◌, drop}
use Rattle.mdblock_lines.specs.Lines.{place_after}
use Rattle.mdblock_containers.specs.PlaceEvents.{HasColumns}
use Rattle.mdblock_table_marks.specs.PiecePlaces.{pieces_at, width_of}
use Rattle.mdblock_table_marks.proofs.pieces.write_pieces.Given as goal

-- the pieces that are left, from the place behind those that are put
abbrev pub invariant-loop-piece : goal.invariant-loop-piece
invariant-loop-piece g l = record {
  columns : HasColumns l.tab l.bytes l.place (width_of (drop l.piece-index l.pieces));
  events : l.events.items ++ pieces_at l.tab l.bytes l.place (drop l.piece-index l.pieces) ≡ l.fn.events.items ++ pieces_at l.tab l.bytes l.fn.from l.pieces;
  end : place_after l.tab l.bytes l.place (width_of (drop l.piece-index l.pieces)) ≡ place_after l.tab l.bytes l.fn.from (width_of l.pieces);
  turns : l.turns + width_of (drop l.piece-index l.pieces) ≤ l.fn.turns + l.piece-index + width_of l.pieces;
}
