-- White space at the end of a line (CommonMark 0.31, 6.8), with no states.
use Rattle.std.specs.Prelude.{ℕ, ◌&&◌, not, Bool, true, cond, List, Option, Some, None}
use Rattle.std.specs.List.{prefix_len}
use Rattle.markdown_base.specs.declared.event.Name.TheVariants.{SpaceOrTab}
use Rattle.mdconstructs_tables.specs.Breaks.{is_white}
use Rattle.mdinline_text_machine.specs.Bytes.{has_byte_at, is_line_feed}
use Rattle.mdinline_text_machine.specs.Construct.{Found, Grammar, plain}
use Rattle.mdinline_text_machine.specs.Parts.{leaf}

-- White space of this many bytes. Its event is the white space
abbrev pub white_space : ℕ → Found
white_space n = record { size = n; mark = plain; events = λ bytes seats. leaf bytes SpaceOrTab seats }

-- the line ends at p: a line feed is there, or the text ends
abbrev pub ends_line_at : (text : List ℕ) → (p : ℕ) → Bool
ends_line_at text p = not (has_byte_at text p (λ byte. not (is_line_feed byte)))

-- nothing but white space is left of the line
abbrev pub is_white_left : List ℕ → Bool
is_white_left text = ends_line_at text (prefix_len is_white text)

-- White space directly before a line ending, or before the end of the text
abbrev pub white_space_at : List ℕ → Option Found
white_space_at text = cond (has_byte_at text 0 is_white && is_white_left text) (Some (white_space (prefix_len is_white text))) None

-- what white space at the end of a line is. No option turns it off
abbrev pub white_space_grammar : Grammar Found
white_space_grammar = record { first = is_white; on = λ on. true; front = white_space_at }
