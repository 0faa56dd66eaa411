-- White space at the end of a line, by its bytes: it begins with a space or a tab, and is a byte at least.
use Rattle.mdinline_constructs.proofs.Prelude.{◌≡◌, ℕ, ◌+◌, ◌<◌, ◌&&◌, ◌∷◌, List, Bool, true, false, cond, Some, None, sym, ap, refl, arith, prefix_len, nat_tests, is_white, OfOption, when-there, Found, item_length, by-class, text_byte, TextByte, is_white_left, white, white_space, white_space_at}

-- the class of white space
abbrev pub is_white_class : TextByte → Bool
is_white_class white = true
is_white_class _ = false

pub white-classed : (b : ℕ) → is_white_class (text_byte b) ≡ is_white b
white-classed b =
    by-class (λ w. is_white_class w ≡ is_white b) b
    (λ e. sym (grind (arith, nat_tests))) (λ e. sym (grind (arith, nat_tests))) (λ e. sym (grind (arith, nat_tests))) (λ e. sym (grind (arith, nat_tests)))
    (λ e. sym (grind (arith, nat_tests))) (λ e. sym (grind (arith, nat_tests))) (λ e. sym (grind (arith, nat_tests))) (λ n e. sym (grind (arith, nat_tests)))
    (λ e. sym (grind (arith, nat_tests))) (λ e. sym (grind (arith, nat_tests))) (λ e. sym e) (λ o e. sym o.10) (λ o e. sym o.10) (λ o n e. sym o.10)

-- a run of white space has a byte
pub run-some : (b : ℕ) (bs : List ℕ) → is_white b ≡ true → 0 < prefix_len is_white (b ∷ bs)
run-some b bs h = let one : prefix_len is_white (b ∷ bs) ≡ 1 + prefix_len is_white bs = ap (λ t. cond t (1 + prefix_len is_white bs) 0) h in omega (arith, one)

space-some : (b : ℕ) (bs : List ℕ) (t : Bool) → is_white b ≡ t → OfOption (λ (item : Found). 0 < item_length item) (cond (t && is_white_left (b ∷ bs)) (Some (white_space (prefix_len is_white (b ∷ bs)))) None)
space-some b bs true h = when-there (λ (item : Found). 0 < item_length item) (is_white_left (b ∷ bs)) (Some (white_space (prefix_len is_white (b ∷ bs)))) (run-some b bs h)
space-some b bs false h = tt

pub white-space-some : (b : ℕ) (bs : List ℕ) → OfOption (λ (item : Found). 0 < item_length item) (white_space_at (b ∷ bs))
white-space-some b bs = space-some b bs (is_white b) refl
