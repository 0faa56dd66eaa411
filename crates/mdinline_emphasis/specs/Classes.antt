-- Classes of characters, and the characters beside a place. The classes are those that emphasis asks for (CommonMark, "Unicode whitespace
-- character" and "Unicode punctuation character"); the bytes of a document need be no UTF-8.
use Rattle.std.specs.Prelude.{ℕ, ◌≡◌, ◌++◌, ◌↔◌, ◌+◌, ◌<◌, ◌-◌, ◌==◌, ◌&&◌, ◌||◌, Bool, true, false, cond, nat_le, List, [], ◌∷◌, length, take, drop, Option, Some, None, chars}
use Rattle.std.specs.Char.{encode_utf8, IsScalar, is_ascii_whitespace, is_ascii_punctuation}
use Rattle.std.specs.Option.{option_or}
use Rattle.std.specs.Str.{is_utf8}
use Rattle.markdown_base.specs.declared.util.char.Kind.{Kind}
use Rattle.markdown_base.specs.declared.util.char.Kind.TheVariants.{Whitespace, Punctuation, Other}
use Rattle.mdinline_emphasis.specs.Unicode.{white_space, punctuation}

-- a code point is in one of the ranges, which have a first and a last code point
abbrev pub in_ranges : List (ℕ × ℕ) → ℕ → Bool
in_ranges [] code = false
in_ranges (r ∷ rs) code = (nat_le r.0 code && nat_le code r.1) || in_ranges rs code

-- from a code point on, the ranges are sorted and disjoint, and none is empty
abbrev pub are_sorted : ℕ → List (ℕ × ℕ) → Bool
are_sorted from [] = true
are_sorted from (r ∷ rs) = (nat_le from r.0 && nat_le r.0 r.1) && are_sorted (r.1 + 1) rs

-- the character that CommonMark sees: U+FFFD in place of U+0000 (2.3, "Insecure characters")
abbrev pub shown_char : ℕ → ℕ
shown_char char = cond (char == 0) 0xFFFD char

-- the class of a character: Unicode's white space and punctuation, by lists of its database
abbrev pub class_of : ℕ → Kind
class_of char = let shown = shown_char char in cond (in_ranges white_space shown) Whitespace (cond (in_ranges punctuation shown) Punctuation Other)

-- the one character of a list
abbrev pub only : List ℕ → Option ℕ
only (char ∷ []) = Some char
only _ = None

-- the character whose UTF-8 these bytes are
abbrev pub char_of : List ℕ → Option ℕ
char_of bytes = cond (is_utf8 bytes) (only (chars bytes)) None

-- the character with which bytes begin: that of the first one, two, three or four
abbrev pub first_char : List ℕ → Option ℕ
first_char bytes = option_or (char_of (take 1 bytes)) (option_or (char_of (take 2 bytes)) (option_or (char_of (take 3 bytes)) (char_of (take 4 bytes))))

-- the last n bytes
abbrev pub last_bytes : ℕ → List ℕ → List ℕ
last_bytes n bytes = drop (length bytes - n) bytes

-- the character with which bytes end: that of the last one, two, three or four
abbrev pub last_char : List ℕ → Option ℕ
last_char bytes = option_or (char_of (last_bytes 1 bytes)) (option_or (char_of (last_bytes 2 bytes)) (option_or (char_of (last_bytes 3 bytes)) (char_of (last_bytes 4 bytes))))

-- the class of the character at an end of bytes. Where there is no byte, it is white space; bytes that are no UTF-8 are other characters
abbrev pub class_at_end : List ℕ → Option ℕ → Kind
class_at_end [] char = Whitespace
class_at_end (byte ∷ bytes) None = Other
class_at_end (byte ∷ bytes) (Some char) = class_of char

-- the class of the character before a place of a document, and of the one behind it
abbrev pub class_before : List ℕ → ℕ → Kind
class_before bytes index = let before = take index bytes in class_at_end before (last_char before)

abbrev pub class_after : List ℕ → ℕ → Kind
class_after bytes index = let behind = drop index bytes in class_at_end behind (first_char behind)

-- bytes begin with the UTF-8 of a character; bytes end with it
abbrev pub BeginWith : List ℕ → ℕ → Type 0
BeginWith bytes char = IsScalar char × (rest : List ℕ) × (bytes ≡ encode_utf8 char ++ rest)

abbrev pub EndWith : List ℕ → ℕ → Type 0
EndWith bytes char = IsScalar char × (front : List ℕ) × (bytes ≡ front ++ encode_utf8 char)

-- the character with which bytes begin is the one whose UTF-8 they begin with, if there is one; and so at their end
abbrev pub CharsAreUtf8 : Type 0
CharsAreUtf8 = (bytes : List ℕ) (char : ℕ) → ((first_char bytes ≡ Some char) ↔ BeginWith bytes char) × ((last_char bytes ≡ Some char) ↔ EndWith bytes char)

-- the characters of ASCII have the classes that std gives them; but U+0000 is punctuation, as U+FFFD is
abbrev pub AsciiHasItsClasses : Type 0
AsciiHasItsClasses = (char : ℕ) → char < 128 → class_of char ≡ cond (is_ascii_whitespace char) Whitespace (cond ((char == 0) || is_ascii_punctuation char) Punctuation Other)
