-- Inner: where the bytes of a document begin, to tell its places. No public contract speaks of it.
use Rattle.std.specs.Prelude.{ℕ, zero, suc, ◌+◌, ◌-◌, ◌*◌, ◌==◌, nat_le, nat_lt, ◌&&◌, Bool, cond, List, map, length, slice_index}
use Rattle.std.specs.List.{range_with_len}
use Rattle.markdown_base.specs.declared.event.Point.{Point}
use Rattle.markdown_base.specs.Virtual.{tab_width}
use Rattle.markdown_base.specs.Lines.{is_lf, ends_line}
use Rattle.markdown_base.specs.Places.{follows_cr}
use Rattle.markdown_children.specs.declared.byte_starts.ByteStart.{ByteStart}

-- how many places of the byte at an index are shown: one for each column of a tab, none for the LF of a CR LF, else one
abbrev pub width_at : (t : ℕ) → List ℕ → (column i : ℕ) → ℕ
width_at t bytes column i = cond (slice_index bytes i == 9) (tab_width t column) (cond (is_lf bytes i && follows_cr bytes i) 0 1)

-- line and column after the byte at an index, from its own; for a CR LF they move on after the LF
abbrev pub line_after : List ℕ → (line i : ℕ) → ℕ
line_after bytes line i = cond (ends_line bytes i) (suc line) line

abbrev pub column_after : (t : ℕ) → List ℕ → (column i : ℕ) → ℕ
column_after t bytes column i =
    cond (ends_line bytes i) 1 (cond (slice_index bytes i == 13) column (cond (slice_index bytes i == 9) (column + tab_width t column) (suc column)))

-- the line and the column of the byte at an index, or of the document's end
abbrev pub line_at : List ℕ → ℕ → ℕ
line_at bytes zero = 1
line_at bytes (suc i) = line_after bytes (line_at bytes i) i

abbrev pub column_at : (t : ℕ) → List ℕ → ℕ → ℕ
column_at t bytes zero = 1
column_at t bytes (suc i) = column_after t bytes (column_at t bytes i) i

-- where a byte, or the document's end, begins
abbrev pub byte_start : (t : ℕ) → List ℕ → ℕ → ByteStart
byte_start t bytes i = record { line = line_at bytes i; column = column_at t bytes i }

-- where each eighth byte begins, the first n of these
abbrev pub eighth_starts : (t : ℕ) → List ℕ → (n : ℕ) → List ByteStart
eighth_starts t bytes n = map (λ k. byte_start t bytes (8 * k)) (range_with_len 0 n)

-- a point is one of the shown places of the byte at its index, which begins there
abbrev pub is_of_byte : (t : ℕ) → List ℕ → Point → ByteStart → Bool
is_of_byte t bytes p start = ((start.line == p.line) && nat_le start.column p.column)
    && ((p.column - start.column == p.vs) && nat_lt p.vs (width_at t bytes start.column p.index))

-- a point is one of the shown places of the document
abbrev pub is_place : (t : ℕ) → List ℕ → Point → Bool
is_place t bytes p = nat_le p.index (length bytes) && is_of_byte t bytes p (byte_start t bytes p.index)
