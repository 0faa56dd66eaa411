-- The text of strings, by the events in them: what a destination, a title or a label says.
use Rattle.std.specs.Char.{digit_value, encode_utf8}
use Rattle.std.specs.List.{flat_map, list_all, slice_range}
use Rattle.std.specs.Prelude.{ℕ, ◌-◌, ◌==◌, ◌&&◌, ◌||◌, not, nat_le, nat_lt, Bool, cond, List, [], ◌∷◌, ◌++◌, length, slice_get, Option, None, Some}
use Rattle.std.specs.Str.Parse.{digits_value}
use lib.Utf8.{scalar}
use Rattle.markdown_base.specs.declared.event.Event.{Event}
use Rattle.markdown_base.specs.declared.event.Name.{Name}
use Rattle.markdown_base.specs.declared.event.Name.TheVariants.{BlockQuoteMarker, CharacterEscapeValue, CharacterReferenceValue, Data, LineEnding}
use Rattle.markdown_base.specs.Events.{is_enter, same_name}
use Rattle.mdinline_characters.specs.References.{characters_of}
use Rattle.mddocument_link_targets.specs.declared.strings.Reading.{Reading}
use Rattle.mddocument_link_targets.specs.declared.strings.Reading.TheVariants.{AsWritten, Decoded}

-- one digit or more of this base, and nothing else
abbrev pub is_numeral : (base : ℕ) → List ℕ → Bool
is_numeral base digits = nat_le 1 (length digits) && list_all (λ d. nat_lt (digit_value d) base) digits

-- the character with this number; "Invalid Unicode code points will be replaced by the REPLACEMENT CHARACTER (U+FFFD). For security reasons, the code
-- point U+0000 will also be replaced by U+FFFD" (CommonMark 0.31, 2.5)
abbrev pub character_at : ℕ → ℕ
character_at number = cond (scalar number && not (number == 0)) number 0xFFFD

-- what a number, and what a name stands for, in UTF-8
abbrev pub numeric : (base : ℕ) → (digits : List ℕ) → List ℕ
numeric base digits = cond (is_numeral base digits) (encode_utf8 (character_at (digits_value base digits))) []

abbrev pub named : (name : List ℕ) → List ℕ
named name = elim (characters_of name) [ None ↦ [] | Some characters ↦ flat_map encode_utf8 characters ]

-- what a character reference stands for, by the byte in front of its value: `#` before a decimal number, `x` or `X` before a hexadecimal one, `&`
-- before a name
abbrev pub reference : (mark : Option ℕ) → (value : List ℕ) → List ℕ
reference None value = []
reference (Some mark) value = cond (mark == 35) (numeric 10 value) (cond ((mark == 120) || (mark == 88)) (numeric 16 value) (named value))

-- What an innermost span over these bytes of a document gives to the text of a string. Decoded: data as it is; of an escape the byte behind the
-- backslash; what a reference stands for; a line ending as a line feed; nothing of the prefixes of a line. As it is written: all but the markers of
-- block quotes, which are in prefixes. Other prefixes are white space
abbrev pub given : (bytes : List ℕ) → Reading → Name → (from to : ℕ) → List ℕ
given bytes AsWritten name from to = cond (same_name name BlockQuoteMarker) [] (slice_range bytes from to)
given bytes Decoded name from to =
    cond (same_name name LineEnding) (10 ∷ [])
    (cond (same_name name CharacterReferenceValue) (reference (slice_get bytes (from - 1)) (slice_range bytes from to))
    (cond (same_name name Data || same_name name CharacterEscapeValue) (slice_range bytes from to) []))

-- what the span that an event enters gives, if it is an innermost one: its exit is directly behind its enter
abbrev pub given_at : (bytes : List ℕ) → Reading → Event → (behind : List Event) → List ℕ
given_at bytes reading e [] = []
given_at bytes reading e (f ∷ fs) = cond (is_enter e.kind && not (is_enter f.kind)) (given bytes reading e.name e.point.index f.point.index) []

-- The text of a string, by the events in it: what its innermost spans give, one after another
abbrev pub text : (bytes : List ℕ) → Reading → List Event → List ℕ
text bytes reading [] = []
text bytes reading (e ∷ es) = given_at bytes reading e es ++ text bytes reading es

abbrev pub decoded : (bytes : List ℕ) → List Event → List ℕ
decoded bytes es = text bytes Decoded es

abbrev pub as_written : (bytes : List ℕ) → List Event → List ℕ
as_written bytes es = text bytes AsWritten es
