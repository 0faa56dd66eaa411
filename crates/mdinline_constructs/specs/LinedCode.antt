-- Code spans of inline text (CommonMark 0.31, 6.1), with no states: white space that a further line begins with is apart, as "the paragraph's raw content is
-- formed by concatenating the lines and removing initial and final spaces or tabs" (4.8). Where one is is as in `CodeSpan`.
use Rattle.std.specs.Prelude.{ℕ, cond, List, ◌++◌, take, drop, length, Option}
use Rattle.std.specs.List.{flat_map, prefix_len}
use Rattle.markdown_base.specs.declared.event.Event.{Event}
use Rattle.markdown_base.specs.declared.event.Name.TheVariants.{CodeTextData, LineEnding, SpaceOrTab}
use Rattle.markdown_base.specs.Virtual.{Seat}
use Rattle.mdconstructs_tables.specs.Breaks.{is_white}
use Rattle.mdinline_text_machine.specs.Bytes.{has_byte_at, is_backtick, is_line_feed}
use Rattle.mdinline_text_machine.specs.CodeSpan.{code_span_found, is_backtick_or_line_feed}
use Rattle.mdinline_text_machine.specs.Construct.{Found, Grammar}
use Rattle.mdinline_text_machine.specs.Parts.{cut, leaf, plain_length}
use Rattle.mdinline_constructs.specs.HtmlText.{Piece, data_run, line_break, piece_length}

-- the piece of code at the front: a line ending with so much white space behind it, or data up to the next line ending or backtick string
abbrev pub code_piece_at : List ℕ → Piece
code_piece_at text = cond (has_byte_at text 0 is_line_feed) (line_break (prefix_len is_white (drop 1 text))) (data_run (plain_length is_backtick_or_line_feed text))

-- its events
abbrev pub code_piece_events : (bytes : List ℕ) → (Piece × List Seat) → List Event
code_piece_events bytes (line_break n, seats) = leaf bytes LineEnding (take 1 seats) ++ leaf bytes SpaceOrTab (drop 1 seats)
code_piece_events bytes (data_run n, seats) = leaf bytes CodeTextData seats

-- the events of all pieces
abbrev pub lined_events : (bytes : List ℕ) → List Seat → List Event
lined_events bytes seats = flat_map (code_piece_events bytes) (cut code_piece_at piece_length (length seats) seats)

-- Code span, with these pieces between its backtick strings
abbrev pub lined_code_at : List ℕ → Option Found
lined_code_at text = code_span_found lined_events text

-- what code spans are
abbrev pub lined_code_grammar : Grammar Found
lined_code_grammar = record { first = is_backtick; on = λ on. on.code_text; front = lined_code_at }
