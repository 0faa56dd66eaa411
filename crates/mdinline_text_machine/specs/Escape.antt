-- Backslash escapes (CommonMark 0.31, 2.4), with no states.
use Rattle.std.specs.Prelude.{ℕ, ◌&&◌, cond, List, ◌++◌, take, drop, Option, Some, None}
use Rattle.std.specs.Char.{is_ascii_punctuation}
use Rattle.markdown_base.specs.declared.event.Name.TheVariants.{CharacterEscape, CharacterEscapeMarker, CharacterEscapeValue}
use Rattle.mdinline_text_machine.specs.Bytes.{is_backslash, has_byte_at}
use Rattle.mdinline_text_machine.specs.Construct.{Found, Grammar, plain}
use Rattle.mdinline_text_machine.specs.Parts.{span, leaf}

-- A backslash escape. Its events: its marker, and the character that is escaped
abbrev pub escape : Found
escape = record {
  size = 2;
  mark = plain;
  events = λ bytes seats. span bytes CharacterEscape seats (leaf bytes CharacterEscapeMarker (take 1 seats) ++ leaf bytes CharacterEscapeValue (drop 1 seats));
}

-- Backslash escape: a backslash before an ASCII punctuation character
abbrev pub escape_at : List ℕ → Option Found
escape_at text = cond (has_byte_at text 0 is_backslash && has_byte_at text 1 is_ascii_punctuation) (Some escape) None

-- what backslash escapes are
abbrev pub escape_grammar : Grammar Found
escape_grammar = record { first = is_backslash; on = λ on. on.character_escape; front = escape_at }
