-- Character references (CommonMark 0.31, 2.5), with no states.
use Rattle.std.specs.Char.{is_ascii_alphanumeric, is_ascii_digit, is_ascii_hexdigit}
use Rattle.std.specs.List.{between, prefix_len}
use Rattle.std.specs.Option.{is_some}
use Rattle.std.specs.Prelude.{ℕ, ◌+◌, ◌==◌, ◌&&◌, nat_le, Bool, cond, List, ◌++◌, take, drop, length, Option, Some, None, codes}
use Rattle.markdown_base.specs.declared.event.Event.{Event}
use Rattle.markdown_base.specs.declared.event.Name.TheVariants.{CharacterReference, CharacterReferenceMarker, CharacterReferenceMarkerNumeric, CharacterReferenceMarkerHexadecimal, CharacterReferenceMarkerSemi, CharacterReferenceValue}
use Rattle.markdown_base.specs.Virtual.{Seat}
use Rattle.mdinline_characters.specs.References.{characters_of}
use Rattle.mdinline_text_machine.specs.Bytes.{has_byte_at, is_ampersand, is_one_of}
use Rattle.mdinline_text_machine.specs.Construct.{Found, Grammar, plain}
use Rattle.mdinline_text_machine.specs.Parts.{span, leaf}

-- `#`
abbrev pub is_number_sign : ℕ → Bool
is_number_sign byte = byte == 35

-- `x` or `X`
abbrev pub is_x : ℕ → Bool
is_x byte = is_one_of (codes "xX") byte

-- `;`
abbrev pub is_semicolon : ℕ → Bool
is_semicolon byte = byte == 59

-- The kinds of references: by name, by a decimal number, or by a hexadecimal one
pub data Kind : Type 0 where
  named : Kind
  decimal : Kind
  hexadecimal : Kind

-- how many bytes stand before the value
abbrev pub marks : Kind → ℕ
marks named = 1
marks decimal = 2
marks hexadecimal = 3

-- the events of these bytes: `&`, `&#`, or `&#x`
abbrev pub mark_events : (bytes : List ℕ) → Kind → List Seat → List Event
mark_events bytes named seats = leaf bytes CharacterReferenceMarker (take 1 seats)
mark_events bytes decimal seats = leaf bytes CharacterReferenceMarker (take 1 seats) ++ leaf bytes CharacterReferenceMarkerNumeric (between 1 2 seats)
mark_events bytes hexadecimal seats =
    leaf bytes CharacterReferenceMarker (take 1 seats)
    ++ (leaf bytes CharacterReferenceMarkerNumeric (between 1 2 seats) ++ leaf bytes CharacterReferenceMarkerHexadecimal (between 2 3 seats))

-- A reference of a kind, with the number of bytes of its value. Its events: its markers, its value, and `;`
abbrev pub reference : Kind → (value : ℕ) → Found
reference kind n = record {
  size = marks kind + n + 1;
  mark = plain;
  events = λ bytes seats.
      span bytes CharacterReference seats
      (mark_events bytes kind seats
      ++ (leaf bytes CharacterReferenceValue (between (marks kind) (marks kind + n) seats) ++ leaf bytes CharacterReferenceMarkerSemi (drop (marks kind + n) seats)));
}

-- the bytes of values: ASCII letters and digits, digits, or hexadecimal digits
abbrev pub is_value_byte : Kind → ℕ → Bool
is_value_byte named = is_ascii_alphanumeric
is_value_byte decimal = is_ascii_digit
is_value_byte hexadecimal = is_ascii_hexdigit

-- the most bytes that a name and a number have: the constants CHARACTER_REFERENCE_NAMED_SIZE_MAX, CHARACTER_REFERENCE_DECIMAL_SIZE_MAX and
-- CHARACTER_REFERENCE_HEXADECIMAL_SIZE_MAX
abbrev pub name_size_max : ℕ
name_size_max = 31

abbrev pub decimal_size_max : ℕ
decimal_size_max = 7

abbrev pub hexadecimal_size_max : ℕ
hexadecimal_size_max = 6

-- Value: a name that HTML has, 1 to 7 digits, or 1 to 6 hexadecimal digits
abbrev pub is_value : Kind → List ℕ → Bool
is_value named name = is_some (characters_of name)
is_value decimal digits = nat_le 1 (length digits) && nat_le (length digits) decimal_size_max
is_value hexadecimal digits = nat_le 1 (length digits) && nat_le (length digits) hexadecimal_size_max

-- a value of a kind, as many of its bytes as there are, with `;` behind it
abbrev pub value_at : Kind → List ℕ → Option Found
value_at kind text =
    let n = prefix_len (is_value_byte kind) text in
    cond (is_value kind (take n text) && has_byte_at text n is_semicolon) (Some (reference kind n)) None

-- behind `&#`: `x` or `X` and a hexadecimal value, or a decimal one
abbrev pub number_at : List ℕ → Option Found
number_at text = cond (has_byte_at text 0 is_x) (value_at hexadecimal (drop 1 text)) (value_at decimal text)

-- behind `&`: `#` and a number, or a name
abbrev pub body_at : List ℕ → Option Found
body_at text = cond (has_byte_at text 0 is_number_sign) (number_at (drop 1 text)) (value_at named text)

-- Character reference: `&`, a name or a number, and `;`
abbrev pub reference_at : List ℕ → Option Found
reference_at text = cond (has_byte_at text 0 is_ampersand) (body_at (drop 1 text)) None

-- what character references are
abbrev pub reference_grammar : Grammar Found
reference_grammar = record { first = is_ampersand; on = λ on. on.character_reference; front = reference_at }
