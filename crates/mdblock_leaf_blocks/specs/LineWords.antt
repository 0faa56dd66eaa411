-- Words for bytes of a line: what comes first, white space, and runs of one byte.
use Rattle.std.specs.Prelude.{ℕ, ◌+◌, ◌==◌, ◌&&◌, ◌||◌, nat_le, Bool, true, false, cond, List, [], ◌∷◌, drop}
use Rattle.std.specs.List.{list_all, prefix_len}
use Rattle.mdconstructs_tables.specs.Breaks.{is_white}

-- a byte comes first, and it passes the test
abbrev pub first_passes : (ℕ → Bool) → List ℕ → Bool
first_passes test [] = false
first_passes test (b ∷ bs) = test b

-- a byte comes first, and it is this one
abbrev pub begins_with : (byte : ℕ) → List ℕ → Bool
begins_with byte [] = false
begins_with byte (b ∷ bs) = b == byte

-- a text begins with these bytes
abbrev pub starts_with : List ℕ → List ℕ → Bool
starts_with [] t = true
starts_with (b ∷ bs) [] = false
starts_with (b ∷ bs) (c ∷ cs) = (b == c) && starts_with bs cs

-- these bytes stand somewhere in it
abbrev pub holds : List ℕ → List ℕ → Bool
holds bs [] = starts_with bs []
holds bs (c ∷ cs) = starts_with bs (c ∷ cs) || holds bs cs

-- Blank line (CommonMark, 4.9): it has nothing, or only spaces and tabs; or so is a part of a line
abbrev pub is_blank_line : List ℕ → Bool
is_blank_line t = list_all is_white t

-- the columns of white space that a line begins with, and the line behind them
abbrev pub indent : List ℕ → ℕ
indent t = prefix_len is_white t

abbrev pub unindented : List ℕ → List ℕ
unindented t = drop (indent t) t

-- how many of this byte come first
abbrev pub run : (byte : ℕ) → List ℕ → ℕ
run byte t = prefix_len (λ b. b == byte) t

-- a capital letter as a small one
abbrev pub lower : ℕ → ℕ
lower c = cond (nat_le 65 c && nat_le c 90) (c + 32) c
