-- Rows that read backslash escapes.
use Rattle.std.specs.Prelude.{◌==◌, Bool, false, List, [], ◌∷◌, Option, Some}
use Rattle.markdown_base.specs.declared.event.Name.TheVariants.{CharacterEscape, CharacterEscapeMarker, CharacterEscapeValue}
use Rattle.markdown_base.specs.declared.state.State.TheVariants.{Next, Ok, Nok}
use Rattle.markdown_base.specs.declared.state.TheConstants.Name.{TextBeforeData, CharacterEscapeStart, CharacterEscapeInside}
use Rattle.markdown_tokenizer.specs.Text.{Given}
use Rattle.markdown_tokenizer.specs.Configuration.{Configuration}
use Rattle.markdown_tokenizer.specs.Sight.{Sight}
use Rattle.mdconstructs_tables.specs.Rows.{enter, exit, consume, Rows, row, at_bytes, StateRows, state}
use Rattle.mdconstructs_tables.specs.Numbers.{Price, by_left}
use Rattle.mdinline_text_machine.specs.Construct.{Found, Construct, if_option, tried}
use Rattle.mdinline_text_machine.specs.TextBytes.{TextByte, backtick, less, greater, backslash, colon, mark, ampersand, punctuation, is_backslash_class}
use Rattle.mdinline_text_machine.specs.TextCosts.{text_cost}
use Rattle.mdinline_text_machine.specs.Escape.{escape_grammar}

-- the options have backslash escapes on
abbrev pub escapes_are_on : {R D : Type 0} → Given → Sight → Configuration R D → Bool
escapes_are_on g s k = g.options.constructs.character_escape

-- Backslash escape: a backslash
abbrev pub escape_start_rows : {R D : Type 0} → (previous current : Option TextByte) → Rows R D
escape_start_rows _ _ = row (enter CharacterEscape ∷ enter CharacterEscapeMarker ∷ consume ∷ exit CharacterEscapeMarker ∷ []) (Next CharacterEscapeInside)

-- its state: it is called only at a backslash, and no span is open yet
abbrev pub escape_start : {R D : Type 0} → StateRows TextByte R D
escape_start =
    tried (record (state CharacterEscapeStart escape_start_rows [] (text_cost (by_left 0 1 1))) { called = at_bytes is_backslash_class })

-- the character that is escaped
abbrev pub escaped : {R D : Type 0} → Rows R D
escaped = row (enter CharacterEscapeValue ∷ consume ∷ exit CharacterEscapeValue ∷ exit CharacterEscape ∷ []) Ok

-- an ASCII punctuation character follows the backslash
abbrev pub escape_inside_rows : {R D : Type 0} → (previous current : Option TextByte) → Rows R D
escape_inside_rows _ (Some backtick) = escaped
escape_inside_rows _ (Some less) = escaped
escape_inside_rows _ (Some greater) = escaped
escape_inside_rows _ (Some backslash) = escaped
escape_inside_rows _ (Some colon) = escaped
escape_inside_rows _ (Some mark) = escaped
escape_inside_rows _ (Some ampersand) = escaped
escape_inside_rows _ (Some punctuation) = escaped
escape_inside_rows _ _ = row [] Nok

-- its state: a backslash escape is open
abbrev pub escape_inside : {R D : Type 0} → StateRows TextByte R D
escape_inside =
    tried (state CharacterEscapeInside escape_inside_rows (CharacterEscape ∷ []) (text_cost (by_left 0 1 1)))

-- What its states cost: each reads a byte or ends
abbrev pub escape_prices : List (Price TextByte)
escape_prices = by_left 0 1 1 ∷ by_left 0 1 1 ∷ []

-- How backslash escapes are read
abbrev pub escapes : {R D : Type 0} → Construct Found TextByte R D
escapes = record {
  grammar = escape_grammar;
  begins = is_backslash_class;
  allowed = if_option escape_grammar;
  start = CharacterEscapeStart;
  otherwise = TextBeforeData;
  states = escape_start ∷ escape_inside ∷ [];
  begun = λ name w. name.number == CharacterEscapeStart.number;
  follows = λ name. false;
}
