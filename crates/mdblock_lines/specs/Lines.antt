-- Virtual bytes and places of a line. A line has no line ending.
use Rattle.std.specs.Prelude.{◌≡◌, zero, suc, ◌-◌, ◌<◌, ◌≤◌, nat_lt, slice_index, ℕ, ◌+◌, ◌==◌, ◌&&◌, not, Bool, cond, List, [], ◌∷◌, ◌++◌, take, drop, length, replicate, map, take_while}
use Rattle.std.specs.List.{prefix_len}
use Rattle.markdown_base.specs.declared.event.Point.{Point}
use Rattle.markdown_base.specs.Virtual.{Seat, point, begins_with_lf, end_after, line_feed, tab_width, virtual_from}
use Rattle.mdconstructs_machines.specs.LineEvents.{lines_in}

-- a byte is no line ending
abbrev pub is_in_line : ℕ → Bool
is_in_line b = not (b == 10) && not (b == 13)

-- the virtual bytes of a byte at a column; a tab has 16 at most
abbrev pub seat_bytes : (t column byte : ℕ) → List ℕ
seat_bytes t column byte = cond (byte == 9) (take (tab_width t column) (9 ∷ replicate 15 32)) (byte ∷ [])

-- the virtual bytes of bytes that are no line endings, of which the first is at a column
abbrev pub expanded : (t column : ℕ) → List ℕ → List ℕ
expanded t column [] = []
expanded t column (b ∷ bs) = seat_bytes t column b ++ expanded t (column + length (seat_bytes t column b)) bs

-- a virtual byte that is no line ending
abbrev pub is_no_ending : Seat → Bool
is_no_ending s = not (s.byte == 10)

-- the virtual bytes of a line in the virtual text from a place on: those before the first line ending
abbrev pub line_bytes : (t line column index : ℕ) → List ℕ → List ℕ
line_bytes t line column index bs = map (λ s. s.byte) (take_while is_no_ending (virtual_from t line column index bs))

-- a tab's virtual byte at a place is not its last
abbrev pub is_in_tab : (t byte : ℕ) → Point → Bool
is_in_tab t byte p = (byte == 9) && nat_lt (p.vs + 1) (tab_width t (p.column - p.vs))

-- The place behind the virtual byte at a place in a line, as the code computes it. In a line it is where the seats of the virtual text end
-- (`PlacesAreThoseOfSeats`)
abbrev pub next_place : (t : ℕ) → List ℕ → Point → Point
next_place t bytes p = cond (is_in_tab t (slice_index bytes p.index) p) (point p.line (p.column + 1) p.index (p.vs + 1)) (point p.line (p.column + 1) (p.index + 1) 0)

-- the place so many virtual bytes behind another
abbrev pub place_after : (t : ℕ) → List ℕ → Point → (n : ℕ) → Point
place_after t bytes p zero = p
place_after t bytes p (suc n) = next_place t bytes (place_after t bytes p n)

-- how many bytes the line ending has that comes here, if one does: CR LF is one line ending
abbrev pub ending_size : List ℕ → ℕ
ending_size [] = 0
ending_size (b ∷ bs) = cond ((b == 13) && begins_with_lf bs) 2 1

-- how many bytes the first line has, with its line ending
abbrev pub line_length : List ℕ → ℕ
line_length bs = prefix_len is_in_line bs + ending_size (drop (prefix_len is_in_line bs) bs)

-- the seats of the first line of these bytes before its line ending, where the line has this number and begins at this index
abbrev pub text_seats : (t line index : ℕ) → List ℕ → List Seat
text_seats t line index bs = take_while is_no_ending (virtual_from t line 1 index bs)

-- the seat of a line ending of so many bytes, at this column and index. That of CR LF is its LF
abbrev pub ending_seats : (line column index size : ℕ) → List Seat
ending_seats line column index zero = []
ending_seats line column index (suc k) = line_feed line column (index + k) ∷ []

-- the first line of these bytes
abbrev pub line_at : (t line index : ℕ) → List ℕ → List Seat
line_at t line index bs =
    let text = text_seats t line index bs in
    let n = prefix_len is_in_line bs in
    text ++ ending_seats line (1 + length text) (index + n) (ending_size (drop n bs))

-- The lines of a document from the beginning of one on: that line, and the lines from behind its line ending on, with the next number
abbrev pub LinesFollow : Type 0
LinesFollow = (t line index : ℕ) (bs : List ℕ) → 0 < t → 0 < length bs
    → lines_in (virtual_from t line 1 index bs) ≡ line_at t line index bs ∷ lines_in (virtual_from t (suc line) 1 (index + line_length bs) (drop (line_length bs) bs))

-- The place so many virtual bytes behind the beginning of a line is where so many of its seats end
abbrev pub PlacesAreThoseOfSeats : Type 0
PlacesAreThoseOfSeats = (t line index k : ℕ) (bytes : List ℕ) → 0 < t → let seats = text_seats t line index (drop index bytes) in
    k ≤ length seats → place_after t bytes (point line 1 index 0) k ≡ end_after (point line 1 index 0) (take k seats)
