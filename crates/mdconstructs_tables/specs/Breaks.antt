-- A look whose rows are tests: the line of a thematic break of stars (CommonMark, 4.1).
use Rattle.std.specs.Prelude.{◌≡◌, ℕ, ◌+◌, ◌-◌, ◌^◌, ◌==◌, ◌||◌, ◌∷◌, List, [], Bool, true, false, cond, min, nat_le, map, Option}
use Rattle.markdown_base.specs.declared.event.Event.{Event}
use Rattle.markdown_base.specs.declared.event.Name.{Name as EventName}
use Rattle.markdown_base.specs.declared.state.State.{State}
use Rattle.markdown_base.specs.declared.state.State.TheVariants.{Next, Ok, Nok}
use Rattle.markdown_base.specs.declared.state.TheConstants.Name.{ThematicBreakAtBreak}
use Rattle.markdown_base.specs.Virtual.{Seat}
use Rattle.markdown_tokenizer.specs.Text.{Given, Text}
use Rattle.markdown_tokenizer.specs.Configuration.{Configuration, Local}
use Rattle.markdown_tokenizer.specs.Sight.{Sight}
use Rattle.mdconstructs_tables.specs.Cases.{Case, at, cases}
use Rattle.mdconstructs_tables.specs.Looks.{scan}
use Rattle.mdconstructs_tables.specs.Rows.{consume, write, Rows, row, when, a_choice, calls, state, Table}
use Rattle.mdconstructs_tables.specs.Tables.{counts}

-- a space or a tab
abbrev pub is_white : ℕ → Bool
is_white byte = (byte == 32) || (byte == 9)

-- one star more was counted, up to the greatest `usize`
abbrev pub one_more : ℕ → ℕ
one_more stars = min (stars + 1) (2 ^ 64 - 1)

-- Behind so many stars the rest of a line makes a thematic break: stars, spaces and tabs, and three stars in all
abbrev pub is_break : (stars : ℕ) → List ℕ → Bool
is_break stars [] = nat_le 3 stars
is_break stars (byte ∷ bytes) =
    cond (byte == 42) (is_break (one_more stars) bytes)
    (cond (is_white byte) (is_break stars bytes)
    (cond (byte == 10) (nat_le 3 stars) false))

-- The classes of bytes: a star, white space, a line ending, or another
pub data BreakByte : Type 0 where
  star : BreakByte
  white : BreakByte
  line_feed : BreakByte
  other : BreakByte

-- the class of a byte
abbrev pub break_byte : ℕ → BreakByte
break_byte byte = cond (byte == 42) star (cond (is_white byte) white (cond (byte == 10) line_feed other))

-- the classes of a star, of white space and of a line ending
abbrev pub is_star_class : BreakByte → Bool
is_star_class star = true
is_star_class _ = false

abbrev pub is_white_class : BreakByte → Bool
is_white_class white = true
is_white_class _ = false

abbrev pub is_line_feed_class : BreakByte → Bool
is_line_feed_class line_feed = true
is_line_feed_class _ = false

-- stars are counted in `size_b`
abbrev pub one_star_more : Configuration Unit Unit → Local Unit Unit
one_star_more k = record k.local { tokenize_state = record k.local.tokenize_state { size_b = one_more k.local.tokenize_state.size_b } }

-- there were at least three
abbrev pub has_three : Given → Sight → Configuration Unit Unit → Bool
has_three g s k = nat_le 3 k.local.tokenize_state.size_b

-- at the end of the line the look ends: with Ok if there were three stars
abbrev pub line_ends : Rows Unit Unit
line_ends = when has_three (row [] Ok) (row [] Nok)

-- a star is counted, white space is passed, and the line ends
abbrev pub break_cases : List (Case BreakByte Unit Unit)
break_cases =
    at is_star_class (row (write one_star_more ∷ consume ∷ []) (Next ThematicBreakAtBreak))
    ∷ at is_white_class (row (consume ∷ []) (Next ThematicBreakAtBreak))
    ∷ at is_line_feed_class line_ends ∷ []

-- the rows of its one state: any other byte makes the look fail
abbrev pub break_rows : (previous current : Option BreakByte) → Rows Unit Unit
break_rows = cases line_ends break_cases (row [] Nok)

-- the look as a table
abbrev pub breaks : Table BreakByte Unit Unit
breaks = record {
  class = break_byte;
  first = counts;
  states = record (state ThematicBreakAtBreak break_rows [] (calls 1 1)) { needs = a_choice } ∷ [];
  starts = [];
}

-- it is Ok
abbrev pub is_ok : State → Bool
is_ok Ok = true
is_ok _ = false

-- the look ends with Ok exactly if the bytes that are left make a thematic break behind the stars that were counted
abbrev pub BreaksAreScanned : Type 0
BreaksAreScanned = (g : Given) (text : Text) (stack : List EventName) (events : List Event)
    (l : List Seat) (previous : Option ℕ) (position : ℕ) (mark : Bool) (local : Local Unit Unit)
    → is_ok (scan breaks g text stack events 1 l previous position mark local ThematicBreakAtBreak).answer
    ≡ is_break local.tokenize_state.size_b (map (λ s. s.byte) l)
