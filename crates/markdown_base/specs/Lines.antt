-- The lines of a document, and the point of a byte offset into it.
use Rattle.std.specs.Prelude.{◌≡◌, ℕ, zero, suc, ◌+◌, ◌-◌, ◌<◌, ◌≤◌, ◌≢◌, ◌^◌, ◌==◌, not, max, nat_le, Bool, true, cond, List, length, filter, fold, take_while, slice_index, Option, Some, None, option_map, if◌then◌else◌}
use Rattle.std.specs.List.{range_with_len, last_or}
use Rattle.std.specs.List.Sorted.{IsNonDecreasingBy}
use Rattle.markdown_base.specs.declared.unist.Point.{Point}

-- there is an LF at an index
abbrev pub is_lf : List ℕ → ℕ → Bool
is_lf bytes i = slice_index bytes i == 10

-- the byte at an index ends a line: an LF, or a CR that no LF follows (CommonMark, "Characters and lines")
abbrev pub ends_line : List ℕ → ℕ → Bool
ends_line bytes i = cond (slice_index bytes i == 13) (not (is_lf bytes (suc i))) (is_lf bytes i)

-- a line starts at index 0, and after each byte that ends one
abbrev pub is_line_start : List ℕ → ℕ → Bool
is_line_start bytes zero = true
is_line_start bytes (suc k) = ends_line bytes k

-- from one index up to another there is no LF and no CR: both are in one line
abbrev pub HasNoLineEnding : List ℕ → (from to : ℕ) → Type 0
HasNoLineEnding bytes from to = (k : ℕ) → from ≤ k → k < to → (slice_index bytes k ≢ 10) × (slice_index bytes k ≢ 13)

-- the byte offset of a document's end, and the byte offsets at which its lines start
pub record Lines : Type 0 where
  pub end : ℕ
  pub starts : List ℕ

-- the lines of a document: all indices up to its length at which a line starts
abbrev pub lines_of : List ℕ → Lines
lines_of bytes = record { end = length bytes; starts = filter (is_line_start bytes) (range_with_len 0 (length bytes + 1)) }

-- the greatest of some numbers, or 0
abbrev pub greatest : List ℕ → ℕ
greatest = fold max 0

-- the point of an offset, counted from 1 (unist: "Point"): its line is the number of line starts that are not after it, its column the
-- distance from the last of these
abbrev pub point_among : List ℕ → ℕ → Point
point_among passed offset = record { line = length passed; column = offset - greatest passed + 1; offset = offset }

-- the point of an offset up to the document's length; none past it
abbrev pub point_in : Lines → ℕ → Option Point
point_in lines offset = if nat_le offset lines.end then Some (point_among (filter (λ start. nat_le start offset) lines.starts) offset) else None

-- converts an offset into a text joined from parts to an offset into the document: takes the last part, from the front, that begins at or
-- before the offset, and adds the distance; None if no part does
abbrev pub absolute_offset : List (ℕ × ℕ) → ℕ → Option ℕ
absolute_offset stops relative = option_map (λ stop. stop.1 + (relative - stop.0)) (last_or None (take_while (λ stop. nat_le stop.0 relative) stops))

-- what a `Location` keeps of its fields: line starts ascend from 0, and the number after the end fits its type
abbrev pub IsKept : ℕ → List ℕ → Type 0
IsKept end starts = (end + 1 < 2 ^ 64) × (0 < length starts) × (slice_index starts 0 ≡ 0) × IsNonDecreasingBy (λ x. x) starts
