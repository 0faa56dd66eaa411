-- Places in a document as editors ask for them: by line and character, counted from 0, as the Language Server Protocol counts ("Position").
--
-- A document is any bytes. Its characters are those of UTF-8, and each byte that is in none is a character of its own.
use Rattle.std.specs.Prelude.{◌≡◌, ℕ, zero, suc, ◌+◌, ◌-◌, ◌==◌, ◌&&◌, ◌||◌, not, min, nat_le, Bool, false, cond, List, [], ◌∷◌, length, take, drop, map, filter, find, sum, take_while, slice_get, slice_index, Option, Some, None, option_map, option_and_then, IsUtf8, chars}
use Rattle.std.specs.Char.{IsScalar, encode_utf8, len_utf8}
use Rattle.std.specs.Char.Escape.{encode_utf16}
use Rattle.std.specs.List.{range_with_len}
use Rattle.std.specs.Option.{unwrap_or}
use Rattle.std.specs.Str.{is_utf8}
use Rattle.markdown_base.specs.Lines.{is_lf, is_line_start}
use Rattle.markdown_base.specs.Places.{follows_cr}
use Rattle.mddocument_editing.specs.declared.positions.Encoding.{Encoding}
use Rattle.mddocument_editing.specs.declared.positions.Encoding.TheVariants.{Utf8, Utf16}
use Rattle.mddocument_editing.specs.declared.positions.Position.{Position}

-- the number of bytes of the character with which bytes begin: the least number of first bytes that are UTF-8, from one to four, or one, if
-- none are
abbrev pub first_size : List ℕ → ℕ
first_size bytes = unwrap_or (find (λ n. is_utf8 (take n bytes)) (1 ∷ 2 ∷ 3 ∷ 4 ∷ [])) 1

-- the numbers of bytes of the characters behind the first few bytes
abbrev pub sizes_behind : (few : ℕ) → List ℕ → List ℕ
sizes_behind few [] = []
sizes_behind zero (b ∷ bs) = first_size (b ∷ bs) ∷ sizes_behind (first_size (b ∷ bs) - 1) bs
sizes_behind (suc few) (b ∷ bs) = sizes_behind few bs

-- the numbers of bytes of the characters of a text, in order
abbrev pub sizes : List ℕ → List ℕ
sizes text = sizes_behind 0 text

-- the units of a character, by its number of bytes: in UTF-8 its bytes; in UTF-16 two, if it has four bytes (it is above U+FFFF), else one
abbrev pub units : Encoding → (size : ℕ) → ℕ
units Utf8 size = size
units Utf16 size = cond (size == 4) 2 1

-- the number of units of a text
abbrev pub length_in : Encoding → List ℕ → ℕ
length_in encoding text = sum (map (units encoding) (sizes text))

-- a place between the characters of a text: how many bytes and how many units are in front of it
pub record Place : Type 0 where
  pub index : ℕ
  pub character : ℕ

-- the place behind a character
abbrev pub behind : Encoding → Place → (size : ℕ) → Place
behind encoding place size = record { index = place.index + size; character = place.character + units encoding size }

-- the places from one on, by the sizes of the characters behind it
abbrev pub places_from : Encoding → Place → List ℕ → List Place
places_from encoding place [] = place ∷ []
places_from encoding place (size ∷ sizes) = place ∷ places_from encoding (behind encoding place size) sizes

-- the places between the characters of a text: its start, and behind each character
abbrev pub places : Encoding → List ℕ → List Place
places encoding text = places_from encoding (record { index = 0; character = 0 }) (sizes text)

-- the byte index of a place in a text, by its units; behind the text's end it is the end
abbrev pub index_in : Encoding → List ℕ → (character : ℕ) → Option ℕ
index_in encoding text character = option_map (λ place. place.index) (find (λ place. place.character == min character (length_in encoding text)) (places encoding text))

-- the units in front of a place in a text, by its byte index; behind the text's end it is the end
abbrev pub character_in : Encoding → List ℕ → (index : ℕ) → Option ℕ
character_in encoding text index = option_map (λ place. place.character) (find (λ place. place.index == min index (length text)) (places encoding text))

-- where lines start, up to an index
abbrev pub starts_up_to : List ℕ → (index : ℕ) → List ℕ
starts_up_to bytes index = filter (is_line_start bytes) (range_with_len 0 (index + 1))

-- where all lines start
abbrev pub starts : List ℕ → List ℕ
starts bytes = starts_up_to bytes (length bytes)

-- a byte is no part of a line ending
abbrev pub is_in_line : ℕ → Bool
is_in_line byte = not ((byte == 10) || (byte == 13))

-- the text of the line that starts at an index, without its line ending
abbrev pub text_at : List ℕ → (start : ℕ) → List ℕ
text_at bytes start = take_while is_in_line (drop start bytes)

-- the byte index of a position, if there is such a line, and it is in no character; behind a line's end it is the line's end
abbrev pub offset_of : Encoding → List ℕ → Position → Option ℕ
offset_of encoding bytes position =
    option_and_then (λ start. option_map (λ index. start + index) (index_in encoding (text_at bytes start) position.character))
    (slice_get (starts bytes) position.line)

-- the number of the line that a byte index is in: that of the last line that starts up to it
abbrev pub line_of : List ℕ → (offset : ℕ) → ℕ
line_of bytes offset = length (starts_up_to bytes offset) - 1

-- where that line starts
abbrev pub start_of : List ℕ → (offset : ℕ) → ℕ
start_of bytes offset = slice_index (starts_up_to bytes offset) (line_of bytes offset)

-- the position of a byte index, if it is in the document, and in no character; between CR and LF it is the line's end
abbrev pub position_of : Encoding → List ℕ → (offset : ℕ) → Option Position
position_of encoding bytes offset =
    cond (nat_le offset (length bytes))
    (option_map (λ character. record { line = line_of bytes offset; character = character })
    (character_in encoding (text_at bytes (start_of bytes offset)) (offset - start_of bytes offset)))
    None

-- a byte index is between CR and LF
abbrev pub is_between : List ℕ → (offset : ℕ) → Bool
is_between bytes offset = is_lf bytes offset && follows_cr bytes offset

-- a position, or its line's end, if it is behind that
abbrev pub clamped : Encoding → List ℕ → Position → Position
clamped encoding bytes position =
    record { line = position.line; character = min position.character (length_in encoding (text_at bytes (slice_index (starts bytes) position.line))) }

-- the position of a position's byte index is the position, or its line's end
abbrev pub PositionsComeBack : Type 0
PositionsComeBack = (encoding : Encoding) (bytes : List ℕ) (position : Position) (offset : ℕ) → offset_of encoding bytes position ≡ Some offset
    → position_of encoding bytes offset ≡ Some (clamped encoding bytes position)

-- the byte index of a byte index's position is the byte index, unless it is between CR and LF
abbrev pub OffsetsComeBack : Type 0
OffsetsComeBack = (encoding : Encoding) (bytes : List ℕ) (offset : ℕ) (position : Position) → position_of encoding bytes offset ≡ Some position
    → is_between bytes offset ≡ false → offset_of encoding bytes position ≡ Some offset

-- the characters of UTF-8 text are those that std reads from it
abbrev pub CharactersAreUtf8 : Type 0
CharactersAreUtf8 = (text : List ℕ) → IsUtf8 text → sizes text ≡ map len_utf8 (chars text)

-- each byte is in one character
abbrev pub CharactersAreAllBytes : Type 0
CharactersAreAllBytes = (bytes : List ℕ) → sum (sizes bytes) ≡ length bytes

-- a character has as many units as std writes for it
abbrev pub UnitsAreWritten : Type 0
UnitsAreWritten = (char : ℕ) → IsScalar char → (units Utf8 (len_utf8 char) ≡ length (encode_utf8 char)) × (units Utf16 (len_utf8 char) ≡ length (encode_utf16 char))
