-- Hard breaks (CommonMark 0.31, 6.7), with no states.
use Rattle.std.specs.Prelude.{ℕ, ◌&&◌, nat_le, cond, List, Option, Some, None}
use Rattle.std.specs.List.{prefix_len}
use Rattle.markdown_base.specs.declared.event.Name.TheVariants.{HardBreakEscape, HardBreakTrailing}
use Rattle.mdconstructs_tables.specs.Breaks.{is_white}
use Rattle.mdinline_text_machine.specs.Bytes.{has_byte_at, is_backslash, is_line_feed, is_space}
use Rattle.mdinline_text_machine.specs.Construct.{Found, Grammar, plain}
use Rattle.mdinline_text_machine.specs.Parts.{leaf}

-- ---- a backslash
-- A hard break that is a backslash. Its event is the backslash
abbrev pub hard_break_escape : Found
hard_break_escape = record { size = 1; mark = plain; events = λ bytes seats. leaf bytes HardBreakEscape seats }

-- Hard break: a backslash directly before a line ending
abbrev pub break_escape_at : List ℕ → Option Found
break_escape_at text = cond (has_byte_at text 0 is_backslash && has_byte_at text 1 is_line_feed) (Some hard_break_escape) None

-- what hard breaks by a backslash are
abbrev pub break_escape_grammar : Grammar Found
break_escape_grammar = record { first = is_backslash; on = λ on. on.hard_break_escape; front = break_escape_at }

-- ---- spaces
-- the fewest spaces of a hard break: the constant HARD_BREAK_PREFIX_SIZE_MIN
abbrev pub trailing_size_min : ℕ
trailing_size_min = 2

-- A hard break of this many spaces. Its event is the spaces
abbrev pub hard_break_trailing : ℕ → Found
hard_break_trailing n = record { size = n; mark = plain; events = λ bytes seats. leaf bytes HardBreakTrailing seats }

-- Hard break: two or more spaces directly before a line ending
abbrev pub trailing_break_at : List ℕ → Option Found
trailing_break_at text =
    let n = prefix_len is_space text in
    cond (nat_le trailing_size_min n && has_byte_at text n is_line_feed) (Some (hard_break_trailing n)) None

-- what hard breaks by spaces are
abbrev pub trailing_break_grammar : Grammar Found
trailing_break_grammar = record { first = is_white; on = λ on. on.hard_break_trailing; front = trailing_break_at }
