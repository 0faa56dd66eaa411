-- Laws of tables, checks and pieces.
use Rattle.std.specs.Prelude.{◌≡◌, ℕ, ◌≤◌, ◌<◌, IfSome, List, map, length, None, Some}
use Rattle.std.specs.List.{AllByRecursion}
use Rattle.markdown_base.specs.declared.event.Point.{Point}
use Rattle.markdown_base.specs.Places.{shown}
use Rattle.markdown_base.specs.Virtual.{Seat}
use Rattle.mdblock_leaf_blocks.specs.LeafEvents.{Mark}
use Rattle.mdblock_tables.specs.declared.rows.RowKind.{RowKind}
use Rattle.mdblock_tables.specs.declared.tables.Alignment.{Alignment}
use Rattle.mdblock_tables.specs.Pieces.{Pieces, laid, placed, size_of, told, under}
use Rattle.mdblock_tables.specs.TablePieces.{content_name, row_pieces}
use Rattle.mdblock_tables.specs.Tables.{cells, matched}
use Rattle.mdblock_tables.specs.Tasks.{check_at, check_pieces}

-- No byte of a row is left out, and none is told twice
abbrev pub RowsAreWhole : Type 0
RowsAreWhole = (kind : RowKind) (line : List ℕ) → size_of (row_pieces kind line) ≡ length line

-- The contents of a row's cells are the cells of its line
abbrev pub RowsHaveCells : Type 0
RowsHaveCells = (kind : RowKind) (line : List ℕ) → under (content_name kind) (row_pieces kind line) line ≡ cells line

-- The header row and the delimiter row of a table have as many cells as it has columns, and it has one
abbrev pub HeadersMatch : Type 0
HeadersMatch = (header delimiter : List ℕ) (all : List Alignment) → matched header delimiter ≡ Some all
    → (length (cells header) ≡ length all) × (length (cells delimiter) ≡ length all) × (1 ≤ length all)

-- Something comes behind a check
abbrev pub ChecksLeaveText : Type 0
ChecksLeaveText = (line : List ℕ) → IfSome (check_at line) (λ check. size_of (check_pieces check) < length line)

-- virtual bytes, and marks, moved
abbrev pub moved : (Point → Point) → Seat → Seat
moved f s = record { byte = s.byte; point = f s.point; end = f s.end }

abbrev pub moved_mark : (Point → Point) → Mark → Mark
moved_mark f m = ((record m.0 { point = f m.0.point }), m.1)

-- Where places move, the marks of pieces move
abbrev pub PiecesMove : Type 0
PiecesMove = (old new : List ℕ) (f : Point → Point) → ((p : Point) → shown new (f p) ≡ f (shown old p))
    → (pieces : Pieces) (seats : List Seat) → placed new pieces (map (moved f) seats) ≡ map (moved_mark f) (placed old pieces seats)

-- a mark begins no chunk
abbrev pub IsNoChunk : Mark → Type 0
IsNoChunk m = m.1 ≡ None

-- No piece is a chunk
abbrev pub PiecesHaveNoChunks : Type 0
PiecesHaveNoChunks = (bytes : List ℕ) (pieces : Pieces) (seats : List Seat) → AllByRecursion IsNoChunk (placed bytes pieces seats)

-- What a writer puts, piece after piece, are the marks of the pieces
abbrev pub PiecesAreLaid : Type 0
PiecesAreLaid = (bytes : List ℕ) (pieces : Pieces) (seats : List Seat) → laid bytes (told pieces) 0 seats ≡ placed bytes pieces seats
