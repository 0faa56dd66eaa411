-- The virtual text of a document: the bytes that states see.
--
-- CommonMark, "Characters and lines": a line ending is LF, CR LF, or a CR that no LF follows; each is one virtual LF. CommonMark, "Tabs": a
-- tab reaches the next tab stop, and is as many virtual bytes as it has columns. There is a tab stop at every t columns; t is above 0.
use Rattle.std.specs.Prelude.{ℕ, zero, suc, ◌+◌, ◌-◌, ◌*◌, ◌^◌, ◌<◌, ◌≤◌, ◌%◌, ◌==◌, Bool, false, cond, List, [], ◌∷◌, ◌++◌, length}
use Rattle.markdown_base.specs.declared.event.Point.{Point}

-- A virtual byte, its place, and the place after it
pub record Seat : Type 0 where
  pub byte : ℕ
  pub point : Point
  pub end : Point

abbrev pub point : (line column index vs : ℕ) → Point
point line column index vs = record { line = line; column = column; index = index; vs = vs }

-- t is a distance that tab stops can have
abbrev pub IsTabSize : (t : ℕ) → Type 0
IsTabSize t = (1 ≤ t) × (t ≤ 16)

-- the limit on the length of a document, with tab stops at every t columns: t times its length, and one more, fit `usize`
abbrev pub IsWithinLimit : (t : ℕ) → List ℕ → Type 0
IsWithinLimit t bytes = t * length bytes + 1 < 2 ^ 64

-- how many virtual bytes a tab at this column is
abbrev pub tab_width : (t column : ℕ) → ℕ
tab_width t column = t - (column - 1) % t

-- the place after a virtual byte of a tab, if `more` of the tab's virtual bytes follow: in the tab, or after it
abbrev pub end_in_tab : (more line column index vs : ℕ) → Point
end_in_tab zero line column index vs = point line (suc column) (suc index) 0
end_in_tab (suc more) line column index vs = point line (suc column) index (suc vs)

-- the last n virtual bytes of a tab: the first is this byte, with this column and number, and the others are spaces
abbrev pub in_tab : (byte n line column index vs : ℕ) → List Seat
in_tab byte zero line column index vs = []
in_tab byte (suc n) line column index vs =
    record { byte = byte; point = point line column index vs; end = end_in_tab n line column index vs } ∷ in_tab 32 n line (suc column) index (suc vs)

-- a line ending, as one LF: the next line begins after it
abbrev pub line_feed : (line column index : ℕ) → Seat
line_feed line column index = record { byte = 10; point = point line column index 0; end = point (suc line) 1 (suc index) 0 }

-- any other byte
abbrev pub other_byte : (byte line column index : ℕ) → Seat
other_byte byte line column index = record { byte = byte; point = point line column index 0; end = point line (suc column) (suc index) 0 }

abbrev pub begins_with_lf : List ℕ → Bool
begins_with_lf [] = false
begins_with_lf (b ∷ bs) = b == 10

-- the virtual bytes of these bytes; the first has this line, column and index. The seat of a CR LF is its LF.
abbrev pub virtual_from : (t line column index : ℕ) → List ℕ → List Seat
virtual_from t line column index [] = []
virtual_from t line column index (b ∷ bs) =
    cond (b == 10)
    (line_feed line column index ∷ virtual_from t (suc line) 1 (suc index) bs)
    (cond (b == 13)
    (cond (begins_with_lf bs)
    (virtual_from t line column (suc index) bs)
    (line_feed line column index ∷ virtual_from t (suc line) 1 (suc index) bs))
    (cond (b == 9)
    (in_tab 9 (tab_width t column) line column index 0 ++ virtual_from t line (column + tab_width t column) (suc index) bs)
    (other_byte b line column index ∷ virtual_from t line (suc column) (suc index) bs)))

-- the virtual bytes of a document
abbrev pub virtual : (t : ℕ) → List ℕ → List Seat
virtual t bytes = virtual_from t 1 1 0 bytes

-- the place after the last of these virtual bytes; this place if there is none
abbrev pub end_after : Point → List Seat → Point
end_after p [] = p
end_after p (s ∷ ss) = end_after s.end ss

-- the place after a document's last byte
abbrev pub document_end : (t : ℕ) → List ℕ → Point
document_end t bytes = end_after (point 1 1 0 0) (virtual t bytes)
