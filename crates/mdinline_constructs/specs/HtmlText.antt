-- What kinds of raw HTML (CommonMark 0.31, 6.6) have in common, with no states.
use Rattle.std.specs.Prelude.{ℕ, ◌+◌, ◌&&◌, ◌||◌, not, Bool, false, cond, List, [], ◌∷◌, ◌++◌, take, drop, length, Option, Some, None}
use Rattle.std.specs.List.{flat_map, prefix_len}
use Rattle.markdown_base.specs.declared.event.Event.{Event}
use Rattle.markdown_base.specs.declared.event.Name.TheVariants.{HtmlText, HtmlTextData, LineEnding, SpaceOrTab}
use Rattle.markdown_base.specs.Virtual.{Seat}
use Rattle.mdconstructs_tables.specs.Breaks.{is_white}
use Rattle.mdinline_text_machine.specs.Bytes.{has_byte_at, is_line_feed}
use Rattle.mdinline_text_machine.specs.Construct.{Found, plain}
use Rattle.mdinline_text_machine.specs.Parts.{cut, span, leaf}

-- A piece of raw HTML: a line feed with so much white space behind it, or so many other bytes, up to the next line feed
pub data Piece : Type 0 where
  line_break : (white : ℕ) → Piece
  data_run : ℕ → Piece

-- the piece at the front
abbrev pub piece_at : List ℕ → Piece
piece_at text = cond (has_byte_at text 0 is_line_feed) (line_break (prefix_len is_white (drop 1 text))) (data_run (prefix_len (λ b. not (is_line_feed b)) text))

-- how many bytes it has
abbrev pub piece_length : Piece → ℕ
piece_length (line_break n) = 1 + n
piece_length (data_run n) = n

-- its events
abbrev pub piece_events : (bytes : List ℕ) → (Piece × List Seat) → List Event
piece_events bytes (line_break n, seats) = leaf bytes LineEnding (take 1 seats) ++ leaf bytes SpaceOrTab (drop 1 seats)
piece_events bytes (data_run n, seats) = leaf bytes HtmlTextData seats

-- Raw HTML of so many bytes. Its events: its pieces
abbrev pub html : ℕ → Found
html n = record { size = n; mark = plain; events = λ bytes seats. span bytes HtmlText seats (flat_map (piece_events bytes) (cut piece_at piece_length (length seats) seats)) }

-- a blank line begins here: a line feed, white space or none, and a line feed
abbrev pub begins_blank_line : List ℕ → Bool
begins_blank_line text = has_byte_at text 0 is_line_feed && has_byte_at text (1 + prefix_len is_white (drop 1 text)) is_line_feed

-- there is a blank line
abbrev pub has_blank_line : List ℕ → Bool
has_blank_line [] = false
has_blank_line (b ∷ bs) = begins_blank_line (b ∷ bs) || has_blank_line bs

-- raw HTML of so many bytes, if there is some, and it holds no blank line
abbrev pub html_of : List ℕ → Option ℕ → Option Found
html_of text None = None
html_of text (Some n) = cond (has_blank_line (take n text)) None (Some (html n))
