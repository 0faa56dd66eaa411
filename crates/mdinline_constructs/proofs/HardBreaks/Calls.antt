-- How many calls hard breaks take, and by what they are paid; and that they are no longer than the text.
use Rattle.mdinline_constructs.proofs.Prelude.{ℕ, ◌+◌, ◌≤◌, ◌==◌, ◌&&◌, List, ◌∷◌, Some, length, nat_le, arith, prefix_len-le-length, prefix_len, OfOption, when-there, has_byte_at, is_line_feed, is_space, Found, item_length, break_escape_at, hard_break_escape, hard_break_trailing, trailing_break_at}

-- ---- a backslash
-- one at the backslash, and one behind it
abbrev pub break_escape_calls : List ℕ → ℕ
break_escape_calls bs = 2

pub break-escape-paid : (b : ℕ) (bs : List ℕ) → OfOption (λ (item : Found). break_escape_calls (b ∷ bs) ≤ item_length item + 1) (break_escape_at (b ∷ bs))
break-escape-paid b bs =
    when-there (λ (item : Found). break_escape_calls (b ∷ bs) ≤ item_length item + 1) ((b == 92) && has_byte_at (b ∷ bs) 1 is_line_feed) (Some hard_break_escape) (omega arith)

pub break-escape-within : (b : ℕ) (bs : List ℕ) → OfOption (λ (item : Found). item_length item ≤ length (b ∷ bs)) (break_escape_at (b ∷ bs))
break-escape-within b bs =
    when-there (λ (item : Found). item_length item ≤ length (b ∷ bs)) ((b == 92) && has_byte_at (b ∷ bs) 1 is_line_feed) (Some hard_break_escape) (omega arith)

-- ---- spaces
pub trailing-break-within : (b : ℕ) (bs : List ℕ) → OfOption (λ (item : Found). item_length item ≤ length (b ∷ bs)) (trailing_break_at (b ∷ bs))
trailing-break-within b bs =
    let n = prefix_len is_space (b ∷ bs) in
    when-there (λ (item : Found). item_length item ≤ length (b ∷ bs)) (nat_le 2 n && has_byte_at (b ∷ bs) n is_line_feed) (Some (hard_break_trailing n)) (prefix_len-le-length is_space (b ∷ bs))
