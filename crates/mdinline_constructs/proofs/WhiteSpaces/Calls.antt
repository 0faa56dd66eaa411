-- White space at the end of a line is no longer than the text.
use Rattle.mdinline_constructs.proofs.Prelude.{ℕ, ◌≤◌, ◌&&◌, List, ◌∷◌, Some, length, prefix_len-le-length, prefix_len, is_white, OfOption, when-there, Found, item_length, is_white_left, white_space, white_space_at}

pub white-space-within : (b : ℕ) (bs : List ℕ) → OfOption (λ (item : Found). item_length item ≤ length (b ∷ bs)) (white_space_at (b ∷ bs))
white-space-within b bs =
    when-there (λ (item : Found). item_length item ≤ length (b ∷ bs)) (is_white b && is_white_left (b ∷ bs)) (Some (white_space (prefix_len is_white (b ∷ bs)))) (prefix_len-le-length is_white (b ∷ bs))
