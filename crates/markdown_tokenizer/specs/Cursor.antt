-- What is at a place, in the bytes and in the virtual text. An inner file: no public clause cites it.
use Rattle.std.specs.List.{AllByRecursion}
use Rattle.std.specs.Prelude.{◌≡◌, ◌≢◌, ℕ, suc, ◌+◌, ◌*◌, ◌%◌, ◌^◌, ◌≤◌, ◌<◌, ◌==◌, nat_lt, ◌&&◌, ◌||◌, not, Bool, true, false, cond, ◌⊎◌, slice_index, List, [], ◌∷◌, ◌++◌, drop, length, Option, Some, None}
use Rattle.markdown_base.specs.declared.event.Point.{Point}
use Rattle.markdown_base.specs.Virtual.{Seat, point, tab_width, in_tab, virtual_from, virtual, end_after}
use Rattle.markdown_base.specs.Places.{stands_before, shown}
use Rattle.markdown_tokenizer.specs.declared.cursor.Moves.{Moves}
use Rattle.markdown_tokenizer.specs.declared.cursor.Moves.TheVariants.{Plain, Tab, Last, Line, Other}

-- the virtual bytes from a place on
abbrev pub rest_at : (t : ℕ) → List ℕ → Point → List Seat
rest_at t bytes p =
    cond (p.vs == 0)
    (virtual_from t p.line p.column p.index (drop p.index bytes))
    (in_tab 32 (tab_width t p.column) p.line p.column p.index p.vs ++ virtual_from t p.line (p.column + tab_width t p.column) (suc p.index) (drop (suc p.index) bytes))

-- the numbers of a place are no larger than its index allows, and it is in the document
pub record Bounds (t : ℕ) (bytes : List ℕ) (p : Point) : Type 0 where
  pub inside : p.index ≤ length bytes
  pub lines : p.line ≤ p.index + 1
  pub columns : p.column ≤ t * p.index + p.vs + 1
  pub first : 1 ≤ p.column
  pub beyond : p.vs < p.column
  pub spaces : p.vs < t
  pub tab : 0 < p.vs → p.index < length bytes

-- a point is the point of a place: the virtual text from there on is as its numbers say, and all earlier virtual bytes are before it
pub record IsPlace (t : ℕ) (bytes : List ℕ) (p : Point) : Type 0 where
  pub before : List Seat
  pub splits : virtual t bytes ≡ before ++ rest_at t bytes p
  pub behind : AllByRecursion (λ s. stands_before s.point p ≡ true) before
  pub stands : shown bytes p ≡ end_after (point 1 1 0 0) before
  pub bounds : Bounds t bytes p

-- the next virtual byte from a place on, and its seat
pub record IsSeatAt (t : ℕ) (bytes : List ℕ) (p : Point) (seat : Seat) : Type 0 where
  pub after : List Seat
  pub is : rest_at t bytes p ≡ seat ∷ after
  pub same : rest_at t bytes seat.point ≡ rest_at t bytes p
  pub later : stands_before seat.point p ≡ false
  pub inside : seat.point.index < length bytes

-- what the search for the next virtual byte returns
abbrev pub IsNextSeat : (t : ℕ) → List ℕ → Point → Option (ℕ × Point) → Type 0
IsNextSeat t bytes p None = rest_at t bytes p ≡ []
IsNextSeat t bytes p (Some r) = (end : Point) × IsSeatAt t bytes p (record { byte = r.0; point = r.1; end = end })

-- a place is before another, given by index and number in a tab
abbrev pub is_before_pair : Point → ℕ × ℕ → Bool
is_before_pair p place = nat_lt p.index place.0 || ((p.index == place.0) && nat_lt p.vs place.1)

-- a place is after another, given by index and number in a tab
abbrev pub is_after_pair : Point → ℕ × ℕ → Bool
is_after_pair p place = nat_lt place.0 p.index || ((place.0 == p.index) && nat_lt place.1 p.vs)

-- what the search for the next virtual byte before an end returns
abbrev pub IsNextByte : (t : ℕ) → List ℕ → Point → ℕ × ℕ → Option ℕ → Type 0
IsNextByte t bytes p end None = (rest_at t bytes p ≡ [])
    ⊎ ((seat : Seat) × IsSeatAt t bytes p seat × (is_before_pair seat.point end ≡ false))
IsNextByte t bytes p end (Some byte) = (seat : Seat) × IsSeatAt t bytes p seat × (is_before_pair seat.point end ≡ true) × (seat.byte ≡ byte)

-- a CR LF begins at an index
abbrev pub begins_pair : List ℕ → ℕ → Bool
begins_pair bytes i = nat_lt (i + 1) (length bytes) && ((slice_index bytes i == 13) && (slice_index bytes (i + 1) == 10))

-- the tab at a place goes on after the virtual byte there: the next column is no tab stop
abbrev pub goes_on : (t byte : ℕ) → Point → Bool
goes_on t byte p = ((byte == 9) || nat_lt 0 p.vs) && not (p.column % t == 0)

-- the place after a virtual byte: in the tab, or at the next byte, which begins a line after LF
abbrev pub end_at : (t byte : ℕ) → Point → Point
end_at t byte p =
    cond (byte == 10)
    (point (suc p.line) 1 (suc p.index) 0)
    (cond (goes_on t byte p)
    (point p.line (suc p.column) p.index (suc p.vs))
    (point p.line (suc p.column) (suc p.index) 0))

-- the numbers of a place fit, and so do the next ones
pub record CanMove (p : Point) : Type 0 where
  pub line : p.line + 1 < 2 ^ 64
  pub index : p.index + 1 < 2 ^ 64
  pub column : p.column + 1 < 2 ^ 64
  pub first : 1 ≤ p.column
  pub number : p.vs + 1 < 2 ^ 64

-- where a place comes to when it moves over a virtual byte
abbrev pub moved : Moves → Point → Point
moved Plain p = point p.line (p.column + 1) (p.index + 1) 0
moved Tab p = point p.line (p.column + 1) p.index (p.vs + 1)
moved Last p = point p.line (p.column + 1) (p.index + 1) 0
moved Line p = point (p.line + 1) 1 (p.index + 1) 0
moved Other p = point p.line (p.column + 1) (p.index + 1) 0

-- where a place comes to when it moves over so many plain bytes
abbrev pub moved_over : ℕ → Point → Point
moved_over n p = point p.line (p.column + n) (p.index + n) 0

-- a place moves so over the next virtual byte, and over a plain one only outside of tabs
pub record MovesOver (t : ℕ) (bytes : List ℕ) (p : Point) (moves : Moves) : Type 0 where
  pub ends : (seat : Seat) → IsSeatAt t bytes p seat → seat.end ≡ moved moves p
  pub flat : moves ≡ Plain → p.vs ≡ 0

-- the next virtual byte is this one, at the place itself and at an index before an end; the place moves so over it. It is before `plain_until`,
-- or not at the beginning of a line
pub record IsQuick (t : ℕ) (bytes : List ℕ) (p : Point) (plain_until end byte : ℕ) (moves : Moves) : Type 0 where
  pub seat : Seat
  pub at : IsSeatAt t bytes p seat
  pub here : seat.point ≡ p
  pub is : seat.byte ≡ byte
  pub before : p.index < end
  pub there : (p.index < plain_until) ⊎ (p.column ≢ 1)
  pub over : MovesOver t bytes p moves
