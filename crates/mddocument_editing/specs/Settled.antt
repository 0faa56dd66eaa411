-- Inner: lines that end whatever comes behind.
use Rattle.std.specs.Prelude.{ℕ, ◌==◌, ◌&&◌, ◌||◌, Bool, false, List, [], ◌∷◌, nat_le, length}
use Rattle.std.specs.List.{list_any}

-- A line ends in bytes, whatever comes behind them: they have a line feed, or a carriage return that is not their last byte. (Behind that one a line feed may
-- come, which is of the same line ending)
abbrev pub is_settled : List ℕ → Bool
is_settled [] = false
is_settled (b ∷ bs) = (b == 10) || (((b == 13) && nat_le 1 (length bs)) || is_settled bs)

-- there is a line feed or a carriage return in bytes
abbrev pub has_ending : List ℕ → Bool
has_ending bytes = list_any (λ byte. (byte == 10) || (byte == 13)) bytes
