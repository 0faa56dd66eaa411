-- Places in a document of two parts, if a line starts with the second: those in the second move, and those in the first stay.
use Rattle.std.specs.Prelude.{◌≡◌, ℕ, ◌+◌, ◌<◌, true, List, ◌++◌, length, option_map}
use Rattle.markdown_base.specs.Lines.{is_line_start}
use Rattle.mddocument_editing.specs.declared.positions.Encoding.{Encoding}
use Rattle.mddocument_editing.specs.declared.positions.Position.{Position}
use Rattle.mddocument_editing.specs.Positions.{line_of, offset_of, position_of}

-- how many line endings bytes have: the number of the line that their end is in
abbrev pub endings : List ℕ → ℕ
endings bytes = line_of bytes (length bytes)

-- a line starts with the second part: there is nothing in front of it, or what is ends a line, and no CR LF is torn
abbrev pub StartsLine : (front part : List ℕ) → Type 0
StartsLine front part = is_line_start (front ++ part) (length front) ≡ true

-- the position, so many lines further down
abbrev pub down : (lines : ℕ) → Position → Position
down lines position = record { line = lines + position.line; character = position.character }

abbrev pub PositionsMove : Type 0
PositionsMove = (encoding : Encoding) (front part : List ℕ) (offset : ℕ) → StartsLine front part
    → position_of encoding (front ++ part) (length front + offset) ≡ option_map (down (endings front)) (position_of encoding part offset)

abbrev pub OffsetsMove : Type 0
OffsetsMove = (encoding : Encoding) (front part : List ℕ) (position : Position) → StartsLine front part
    → offset_of encoding (front ++ part) (down (endings front) position) ≡ option_map (λ offset. length front + offset) (offset_of encoding part position)

abbrev pub PositionsStay : Type 0
PositionsStay = (encoding : Encoding) (front part : List ℕ) (offset : ℕ) → StartsLine front part → offset < length front
    → position_of encoding (front ++ part) offset ≡ position_of encoding front offset

abbrev pub OffsetsStay : Type 0
OffsetsStay = (encoding : Encoding) (front part : List ℕ) (position : Position) → StartsLine front part → position.line < endings front
    → offset_of encoding (front ++ part) position ≡ offset_of encoding front position

-- the line endings of both are those of each
abbrev pub EndingsAdd : Type 0
EndingsAdd = (front part : List ℕ) → StartsLine front part → endings (front ++ part) ≡ endings front + endings part
