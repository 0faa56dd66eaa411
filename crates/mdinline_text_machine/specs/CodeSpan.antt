-- Code spans (CommonMark 0.31, 6.1), with no states.
use Rattle.std.specs.Prelude.{ℕ, ◌+◌, ◌==◌, ◌&&◌, ◌||◌, not, Bool, cond, List, ◌++◌, take, drop, length, Option, None, find, option_map}
use Rattle.std.specs.List.{between, flat_map, range_with_len}
use Rattle.markdown_base.specs.declared.event.Event.{Event}
use Rattle.markdown_base.specs.declared.event.Name.TheVariants.{CodeText, CodeTextSequence, CodeTextData}
use Rattle.markdown_base.specs.Virtual.{Seat}
use Rattle.mdinline_text_machine.specs.Bytes.{is_line_feed, is_backtick, backticks, has_byte_at, ends_with}
use Rattle.mdinline_text_machine.specs.Construct.{Found, Grammar, plain}
use Rattle.mdinline_text_machine.specs.Parts.{Part, part_length, part_at, part_events, cut, span, leaf}

-- the bytes that end data in a code span
abbrev pub is_backtick_or_line_feed : ℕ → Bool
is_backtick_or_line_feed byte = is_line_feed byte || is_backtick byte

-- the pieces inside a code span: line endings, and the rest as plain text
abbrev pub pieces : List Seat → List (Part × List Seat)
pieces seats = cut (part_at is_backtick_or_line_feed) part_length (length seats) seats

-- their events
abbrev pub code_events : (bytes : List ℕ) → List Seat → List Event
code_events bytes seats = flat_map (part_events bytes CodeTextData) (pieces seats)

-- A code span, with the length of its two backtick strings and of the bytes between them. Its events: its backtick strings, and what the bytes between
-- them have
abbrev pub code_span_with : (between_them : List ℕ → List Seat → List Event) → (backticks inside : ℕ) → Found
code_span_with between_them backticks inside = record {
  size = backticks + inside + backticks;
  mark = plain;
  events = λ bytes seats.
      span bytes CodeText seats
      (leaf bytes CodeTextSequence (take backticks seats)
      ++ (between_them bytes (between backticks (backticks + inside) seats) ++ leaf bytes CodeTextSequence (drop (backticks + inside) seats)));
}

-- with line endings and data between them
abbrev pub code_span : (backticks inside : ℕ) → Found
code_span backticks inside = code_span_with code_events backticks inside

-- Backtick string: at p there are exactly k backticks, neither preceded nor followed by a backtick
abbrev pub is_backtick_string : (text : List ℕ) → (k p : ℕ) → Bool
is_backtick_string text k p = not (ends_with (take p text) is_backtick) && (backticks (drop p text) == k)

-- how many bytes are before the first backtick string of k backticks
abbrev pub before_backtick_string : (k : ℕ) → List ℕ → Option ℕ
before_backtick_string k text = find (is_backtick_string text k) (range_with_len 0 (length text))

-- Code span: it begins with a backtick string and ends with the next backtick string of equal length. Backslash escapes do not work in it.
abbrev pub code_span_found : (between_them : List ℕ → List Seat → List Event) → List ℕ → Option Found
code_span_found between_them text =
    let opening = backticks text in
    cond (has_byte_at text 0 is_backtick) (option_map (code_span_with between_them opening) (before_backtick_string opening (drop opening text))) None

-- with line endings and data between its backtick strings
abbrev pub code_span_at : List ℕ → Option Found
code_span_at text = code_span_found code_events text

-- what code spans are
abbrev pub code_span_grammar : Grammar Found
code_span_grammar = record { first = is_backtick; on = λ on. on.code_text; front = code_span_at }
