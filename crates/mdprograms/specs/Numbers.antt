-- Numbers in arguments, each a list of bytes.
use Rattle.std.specs.Prelude.{ℕ, ◌^◌, ◌&&◌, List, Option, Some, None, nat_lt, cond}
use Rattle.std.specs.Char.{is_ascii_digit}
use Rattle.std.specs.List.{list_all}
use Rattle.std.specs.Option.{option_and_then}
use Rattle.std.specs.Str.Parse.{digits_value}

-- the number of an argument of decimal digits, if it is above 0 and fits `usize`
abbrev pub decimal_of : List ℕ → Option ℕ
decimal_of word = cond (list_all is_ascii_digit word && (nat_lt 0 (digits_value 10 word) && nat_lt (digits_value 10 word) (2 ^ 64))) (Some (digits_value 10 word)) None

-- the tab size of an argument: its number, if that is at most 16
abbrev pub tab_size_of : List ℕ → Option ℕ
tab_size_of word = option_and_then (λ n. cond (nat_lt 16 n) None (Some n)) (decimal_of word)
