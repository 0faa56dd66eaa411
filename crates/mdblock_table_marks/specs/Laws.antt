-- What is said of the events of tables.
use Rattle.std.specs.Prelude.{◌≡◌, ◌≤◌, ℕ, suc, ◌+◌, ◌*◌, Bool, true, false, List, [], ◌∷◌, length, map}
use Rattle.std.specs.List.{AllByRecursion, flat_map}
use Rattle.markdown_base.specs.declared.configuration.Constructs.{Constructs}
use Rattle.markdown_base.specs.declared.event.Event.{Event}
use Rattle.markdown_base.specs.declared.event.Point.{Point}
use Rattle.markdown_base.specs.Events.{IsBalanced, IsVoidTight}
use Rattle.markdown_base.specs.Places.{shown}
use Rattle.markdown_base.specs.Virtual.{Seat}
use Rattle.mdconstructs_machines.specs.Innermost.{AccountFor}
use Rattle.mdblock_tables.specs.declared.rows.RowKind.{RowKind}
use Rattle.mdblock_tables.specs.Laws.{moved, moved_mark}
use Rattle.mdblock_tables.specs.Pieces.{told}
use Rattle.mdblock_tables.specs.TablePieces.{row_pieces}
use Rattle.mdblock_containers.specs.Prefixes.{columns_of}
use Rattle.mdblock_containers.specs.Rows.{Row}
use Rattle.mdblock_containers.specs.SeatPlaces.{events_of}
use Rattle.mdblock_containers.specs.Skeleton.{prefixes_marks}
use Rattle.mdblock_containers.specs.Written.{NoChunk}
use Rattle.mdblock_table_marks.specs.Cells.{CellsHaveData, with_cells}
use Rattle.mdblock_table_marks.specs.TableCuts.{Cut, cut_at_tables, tabled, untabled}
use Rattle.mdblock_table_marks.specs.TableMarks.{rows_marks, rows_seats}

-- ---- any table

-- Each virtual byte of its lines, behind the prefixes of the first, is in exactly one innermost span: none is lost between cells or rows
abbrev pub TablesAccount : Type 0
TablesAccount = (bytes : List ℕ) (header : Row) (rows : List Row) → AccountFor (events_of (rows_marks bytes header rows)) bytes (rows_seats (header ∷ rows))

-- What is entered is exited, in order
abbrev pub TablesAreBalanced : Type 0
TablesAreBalanced = (bytes : List ℕ) (header : Row) (rows : List Row) → IsBalanced (events_of (rows_marks bytes header rows))

-- Void spans are empty
abbrev pub TablesAreVoidTight : Type 0
TablesAreVoidTight = (bytes : List ℕ) (header : Row) (rows : List Row) → IsVoidTight (events_of (rows_marks bytes header rows))

-- No mark begins a chunk
abbrev pub TablesHaveNoChunks : Type 0
TablesHaveNoChunks = (bytes : List ℕ) (header : Row) (rows : List Row) → NoChunk (rows_marks bytes header rows)

-- What comes to be a chain is data, with nothing in it
abbrev pub TablesHaveCellData : Type 0
TablesHaveCellData = (bytes : List ℕ) (header : Row) (rows : List Row) → CellsHaveData (events_of (rows_marks bytes header rows))

-- ---- where places move

-- A line whose places move: its prefixes have as many columns, and their marks move
pub record IsMovedRow (old new : List ℕ) (f : Point → Point) (before after : Row) : Type 0 where
  pub line : after.line ≡ map (moved f) before.line
  pub columns : after.columns ≡ before.columns
  pub prefixes : columns_of after.went_on ≡ columns_of before.went_on
  pub marks : prefixes_marks new after.went_on after.line ≡ map (moved_mark f) (prefixes_marks old before.went_on before.line)

-- lines one by one
abbrev pub AreMovedRows : (old new : List ℕ) → (Point → Point) → (before after : List Row) → Type 0
AreMovedRows old new f [] [] = Unit {0}
AreMovedRows old new f [] (s ∷ ss) = ⊥
AreMovedRows old new f (r ∷ rs) [] = ⊥
AreMovedRows old new f (r ∷ rs) (s ∷ ss) = IsMovedRow old new f r s × AreMovedRows old new f rs ss

-- both places of each virtual byte of a line are known
abbrev pub IsKnownRow : (known : Point → Bool) → Row → Type 0
IsKnownRow known row = AllByRecursion (λ (s : Seat). (known s.point ≡ true) × (known s.end ≡ true)) row.line

-- Where the places of lines move, the marks of their table move, if each known place is shown where it moves
abbrev pub TablesMove : Type 0
TablesMove = (old new : List ℕ) (f : Point → Point) (known : Point → Bool) → ((p : Point) → known p ≡ true → shown new (f p) ≡ f (shown old p))
    → (header moved_header : Row) (rows moved_rows : List Row) → AreMovedRows old new f (header ∷ rows) (moved_header ∷ moved_rows) → AllByRecursion (IsKnownRow known) (header ∷ rows)
    → rows_marks new moved_header moved_rows ≡ map (moved_mark f) (rows_marks old header rows)

-- ---- what rows cost

-- A row has few pieces: its bytes pay for them
abbrev pub RowsHaveFewPieces : Type 0
RowsHaveFewPieces = (kind : RowKind) (line : List ℕ) → length (told (row_pieces kind line)) ≤ 11 * length line + 5

-- ---- lines cut at tables

-- Each line is in exactly one piece, and pieces are in the order of lines
abbrev pub CutsHoldLines : Type 0
CutsHoldLines = (is_in_table : Row → Bool) (bound : ℕ) (rows : List Row) → length rows ≤ bound → flat_map (λ (c : Cut). c.rows) (cut_at_tables is_in_table bound rows) ≡ rows

-- Lines of which none is in a table are one piece
abbrev pub CutsNeedTables : Type 0
CutsNeedTables = (is_in_table : Row → Bool) (bound : ℕ) (row : Row) (rows : List Row) → AllByRecursion (λ r. is_in_table r ≡ false) (row ∷ rows)
    → cut_at_tables is_in_table (suc bound) (row ∷ rows) ≡ untabled (row ∷ rows) ∷ tabled [] ∷ []

-- ---- cells

-- Where tables are off, no text of a cell is a chain
abbrev pub CellsCanBeOff : Type 0
CellsCanBeOff = (on : Constructs) (events : List Event) → on.gfm_table ≡ false → with_cells on events ≡ events

-- Links alone change: each event keeps its kind, its name and its place
abbrev pub CellsKeepEvents : Type 0
CellsKeepEvents = (on : Constructs) (events : List Event)
    → (map (λ e. e.kind) (with_cells on events) ≡ map (λ e. e.kind) events)
    × (map (λ e. e.name) (with_cells on events) ≡ map (λ e. e.name) events)
    × (map (λ e. e.point) (with_cells on events) ≡ map (λ e. e.point) events)
