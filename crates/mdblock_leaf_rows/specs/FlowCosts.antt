-- What the states of leaf blocks cost. Choices are looks at one line, or at blank lines, which go back; so a cost depends on how far the line
-- reaches. From a line on, reading takes at most nine calls for each byte that is left, and nine more.
use Rattle.std.specs.Prelude.{ℕ, ◌+◌, ◌-◌, ◌*◌, ◌==◌, suc, cond, List, [], ◌∷◌, length, drop}
use Rattle.markdown_base.specs.Virtual.{Seat}
use Rattle.markdown_tokenizer.specs.Text.{Text}
use Rattle.mdconstructs_tables.specs.Breaks.{is_white}

-- how many bytes come before the next line ending
abbrev pub line : List Seat → ℕ
line [] = 0
line (s ∷ ss) = cond (s.byte == 10) 0 (suc (line ss))

-- how many white bytes and line endings come first
abbrev pub run : List Seat → ℕ
run [] = 0
run (s ∷ ss) = cond (s.byte == 10) (suc (run ss)) (cond (is_white s.byte) (suc (run ss)) 0)

-- the same after the next line ending, if only white bytes are before it; else none
abbrev pub run_after : List Seat → ℕ
run_after [] = 0
run_after (s ∷ ss) = cond (s.byte == 10) (run ss) (cond (is_white s.byte) (run_after ss) 0)

-- how many bytes are left, and how many of them after the line
abbrev pub left : Text → ℕ → ℕ
left text p = length text.seats - p

abbrev pub beyond : Text → ℕ → ℕ
beyond text p = left text p - line (drop p text.seats)

-- costs, each with so many calls more: of a look at a line, of one at the next line, and of one at white bytes and line endings
abbrev pub looking : (more : ℕ) → Text → ℕ → ℕ
looking more text p = line (drop p text.seats) + more

abbrev pub at_next_line : (more : ℕ) → Text → ℕ → ℕ
at_next_line more text p = line (drop (p + 1) text.seats) + more

abbrev pub in_run : (more : ℕ) → Text → ℕ → ℕ
in_run more text p = run (drop p text.seats) + more

-- costs before a line; in a block; in indented code; and at the end of a line, if the next one was looked at
abbrev pub starting : (more : ℕ) → Text → ℕ → ℕ
starting more text p = 9 * left text p + more - (line (drop p text.seats) + run (drop p text.seats))

abbrev pub reading : (more : ℕ) → Text → ℕ → ℕ
reading more text p = 9 * beyond text p + 2 * line (drop p text.seats) + more - run_after (drop p text.seats)

abbrev pub in_code : (more : ℕ) → Text → ℕ → ℕ
in_code more text p = 9 * beyond text p + 2 * line (drop p text.seats) + more

abbrev pub looked : (more : ℕ) → Text → ℕ → ℕ
looked more text p = 9 * left text p + more - (line (drop (p + 1) text.seats) + run_after (drop p text.seats))
