-- Rows that read character references.
use Rattle.std.specs.Char.{is_ascii_alphanumeric, is_ascii_digit, is_ascii_hexdigit}
use Rattle.std.specs.Option.{is_some, unwrap_or}
use Rattle.std.specs.Prelude.{ℕ, ◌==◌, ◌&&◌, nat_le, nat_lt, Bool, true, false, cond, List, [], ◌∷◌, ◌++◌, take, Option, Some, None}
use Rattle.markdown_base.specs.declared.event.Name.TheVariants.{CharacterReference, CharacterReferenceMarker, CharacterReferenceMarkerNumeric, CharacterReferenceMarkerHexadecimal, CharacterReferenceMarkerSemi, CharacterReferenceValue}
use Rattle.markdown_base.specs.declared.state.State.TheVariants.{Next, Ok, Nok}
use Rattle.markdown_base.specs.declared.state.TheConstants.Name.{TextBeforeData, CharacterReferenceStart, CharacterReferenceOpen, CharacterReferenceNumeric, CharacterReferenceValue as ReferenceValue}
use Rattle.markdown_tokenizer.specs.Text.{Given}
use Rattle.markdown_tokenizer.specs.Configuration.{Configuration, Local}
use Rattle.markdown_tokenizer.specs.Sight.{Sight}
use Rattle.mdconstructs_tables.specs.Rows.{enter, exit, consume, write, writes, Rows, row, when, at_bytes, StateRows, state}
use Rattle.mdconstructs_tables.specs.Numbers.{Price, by_left}
use Rattle.mdinline_characters.specs.References.{characters_of, name_from}
use Rattle.mdinline_text_machine.specs.Bytes.{has_byte_at, passes}
use Rattle.mdinline_text_machine.specs.Construct.{Found, Construct, if_option, tried}
use Rattle.mdinline_text_machine.specs.TextBytes.{TextByte, ampersand}
use Rattle.mdinline_text_machine.specs.TextCosts.{text_cost}
use Rattle.mdinline_text_machine.specs.TextSizes.{more_than}
use Rattle.mdinline_constructs.specs.Reference.{is_number_sign, is_x, is_semicolon, name_size_max, decimal_size_max, hexadecimal_size_max, reference_grammar}

-- While a reference is read, the marker says of which kind it is: `&`, `#` or `x`; the size counts the bytes of its value; and the markers
-- are some name that begins with these bytes, if it is a name.

-- a name that begins with n bytes of this one, and goes on with a byte: this one, or another
abbrev pub going_on : (name : List ℕ) (n byte : ℕ) → Option (List ℕ)
going_on name n byte = cond (has_byte_at name n (λ b. b == byte)) (Some name) (name_from (take n name ++ (byte ∷ [])))

-- a byte may be one more of the value
abbrev pub may_go_on : (marker : ℕ) (name : List ℕ) (n byte : ℕ) → Bool
may_go_on marker name n byte =
    cond (marker == 38) ((nat_lt n name_size_max && is_ascii_alphanumeric byte) && is_some (going_on name n byte))
    (cond (marker == 35) (nat_lt n decimal_size_max && is_ascii_digit byte) (nat_lt n hexadecimal_size_max && is_ascii_hexdigit byte))

-- n bytes of a value are one: of a name those that HTML has, and else one digit or more
abbrev pub is_whole : (marker : ℕ) (name : List ℕ) (n : ℕ) → Bool
is_whole marker name n = cond (marker == 38) (is_some (characters_of (take n name))) (nat_le 1 n)

-- the name that is known behind a byte
abbrev pub name_behind : (marker : ℕ) (name : List ℕ) (n : ℕ) → Option ℕ → List ℕ
name_behind marker name n None = name
name_behind marker name n (Some byte) = cond (marker == 38) (unwrap_or (going_on name n byte) name) name

module _ {R D : Type 0} where
  -- the options have character references on
  abbrev pub references_are_on : Given → Sight → Configuration R D → Bool
  references_are_on g s k = g.options.constructs.character_reference

  -- `#` waits
  abbrev pub at_number_sign : Given → Sight → Configuration R D → Bool
  at_number_sign g s k = passes is_number_sign s.current

  -- `x` or `X` waits behind `#`
  abbrev pub at_x : Given → Sight → Configuration R D → Bool
  at_x g s k = (k.local.tokenize_state.marker == 35) && passes is_x s.current

  -- `;` waits
  abbrev pub at_semicolon : Given → Sight → Configuration R D → Bool
  at_semicolon g s k = passes is_semicolon s.current

  -- one more byte of the value waits
  abbrev pub value_goes_on : Given → Sight → Configuration R D → Bool
  value_goes_on g s k = let t = k.local.tokenize_state in passes (may_go_on t.marker t.markers t.size_b) s.current

  -- the value is whole
  abbrev pub value_is_whole : Given → Sight → Configuration R D → Bool
  value_is_whole g s k = let t = k.local.tokenize_state in is_whole t.marker t.markers t.size_b

  -- a reference begins, by name unless it turns out to be a number
  abbrev pub reference_begins : Configuration R D → Local R D
  reference_begins k = record k.local { tokenize_state = record k.local.tokenize_state { marker = 38; size_b = 0 } }

  -- it is of this kind
  abbrev pub marker_is : ℕ → Configuration R D → Local R D
  marker_is byte k = record k.local { tokenize_state = record k.local.tokenize_state { marker = byte } }

  -- its value grows by the byte that waits
  abbrev pub value_grows : Sight → Configuration R D → Local R D
  value_grows s k =
      let t = k.local.tokenize_state in
      record k.local { tokenize_state = record t { size_b = more_than t.size_b; markers = name_behind t.marker t.markers t.size_b s.current } }

  -- At `&`
  abbrev pub reference_start_rows : (previous current : Option TextByte) → Rows R D
  reference_start_rows _ _ =
      row (write reference_begins ∷ enter CharacterReference ∷ enter CharacterReferenceMarker ∷ consume ∷ exit CharacterReferenceMarker ∷ []) (Next CharacterReferenceOpen)

  -- a value begins
  abbrev pub value_begins : Rows R D
  value_begins = when value_goes_on (row (enter CharacterReferenceValue ∷ writes value_grows ∷ consume ∷ []) (Next ReferenceValue)) (row [] Nok)

  -- Behind `&`: `#`, or a name
  abbrev pub reference_open_rows : (previous current : Option TextByte) → Rows R D
  reference_open_rows _ None = row [] Nok
  reference_open_rows _ (Some _) =
      when at_number_sign
      (row (enter CharacterReferenceMarkerNumeric ∷ consume ∷ exit CharacterReferenceMarkerNumeric ∷ write (marker_is 35) ∷ []) (Next CharacterReferenceNumeric)) value_begins

  -- Behind `&#`: `x`, or a number
  abbrev pub reference_numeric_rows : (previous current : Option TextByte) → Rows R D
  reference_numeric_rows _ None = row [] Nok
  reference_numeric_rows _ (Some _) =
      when at_x
      (row (enter CharacterReferenceMarkerHexadecimal ∷ consume ∷ exit CharacterReferenceMarkerHexadecimal ∷ write (marker_is 120) ∷ []) (Next CharacterReferenceNumeric)) value_begins

  -- In a value: it goes on, up to `;`
  abbrev pub reference_value_rows : (previous current : Option TextByte) → Rows R D
  reference_value_rows _ None = row [] Nok
  reference_value_rows _ (Some _) =
      when at_semicolon
      (when value_is_whole
      (row (exit CharacterReferenceValue ∷ enter CharacterReferenceMarkerSemi ∷ consume ∷ exit CharacterReferenceMarkerSemi ∷ exit CharacterReference ∷ []) Ok) (row [] Nok))
      (when value_goes_on (row (writes value_grows ∷ consume ∷ []) (Next ReferenceValue)) (row [] Nok))

-- the class of `&`
abbrev pub is_ampersand_class : TextByte → Bool
is_ampersand_class ampersand = true
is_ampersand_class _ = false

module _ {R D : Type 0} where
  -- their states: it is called only at `&`, and no span is open yet
  abbrev pub reference_start : StateRows TextByte R D
  reference_start =
      tried (record (state CharacterReferenceStart reference_start_rows [] (text_cost (by_left 0 1 1))) { called = at_bytes is_ampersand_class })

  -- a reference is open
  abbrev pub reference_open : StateRows TextByte R D
  reference_open = tried (state CharacterReferenceOpen reference_open_rows (CharacterReference ∷ []) (text_cost (by_left 0 1 1)))

  abbrev pub reference_numeric : StateRows TextByte R D
  reference_numeric = tried (state CharacterReferenceNumeric reference_numeric_rows (CharacterReference ∷ []) (text_cost (by_left 0 1 1)))

  -- a reference and its value are open
  abbrev pub reference_value : StateRows TextByte R D
  reference_value = tried (state ReferenceValue reference_value_rows (CharacterReference ∷ CharacterReferenceValue ∷ []) (text_cost (by_left 0 1 1)))

-- What their states cost: each reads a byte or ends
abbrev pub reference_prices : List (Price TextByte)
reference_prices = by_left 0 1 1 ∷ by_left 0 1 1 ∷ by_left 0 1 1 ∷ by_left 0 1 1 ∷ []

-- How character references are read
abbrev pub references : {R D : Type 0} → Construct Found TextByte R D
references = record {
  grammar = reference_grammar;
  begins = is_ampersand_class;
  allowed = if_option reference_grammar;
  start = CharacterReferenceStart;
  otherwise = TextBeforeData;
  states = reference_start ∷ reference_open ∷ reference_numeric ∷ reference_value ∷ [];
  begun = λ name w. name.number == CharacterReferenceStart.number;
  follows = λ name. false;
}
