-- Thematic breaks at the columns of a line. What `breaks_in` answers is said of `is_thematic_break`; the walk is a part of its proof.
use Rattle.std.specs.Prelude.{ℕ, ◌+◌, ◌==◌, ◌&&◌, ◌||◌, nat_le, nat_lt, Bool, cond, List, [], ◌∷◌, length, Option, None, Some, unwrap_or}
use Rattle.mdconstructs_tables.specs.Breaks.{is_white}
use Rattle.mdblock_lines.specs.declared.breaks.Breaks.{Breaks}
use Rattle.mdblock_lines.specs.declared.breaks.Walk.{Walk}

-- a thematic break begins at this column, if that is no white space
abbrev pub has_break : Breaks → (at : ℕ) → Bool
has_break breaks at = nat_le breaks.from at && nat_lt at breaks.to

abbrev pub is_break_mark : ℕ → Bool
is_break_mark b = (b == 42) || ((b == 45) || (b == 95))

-- a walk, and one byte before it
abbrev pub with_byte : Walk → (byte : ℕ) → Option Walk
with_byte w byte =
    cond (is_white byte) (Some (record { mark = w.mark; marks = w.marks; reach = w.reach + 1; least = w.least }))
    (cond (is_break_mark byte && ((w.marks == 0) || (byte == w.mark)))
    (Some (record { mark = byte; marks = w.marks + 1; reach = w.reach + 1; least = cond (w.marks == 2) (w.reach + 1) w.least })) None)

-- the walk over bytes from their end on
abbrev pub walked : List ℕ → Walk
walked [] = record { mark = 0; marks = 0; reach = 0; least = 0 }
walked (b ∷ bs) = cond ((walked bs).reach == length bs) (unwrap_or (with_byte (walked bs) b) (walked bs)) (walked bs)
