-- Labels and collapsed white space, byte by byte.
use Rattle.mdinline_labels.proofs.Prelude.{◌≡◌, ℕ, ◌+◌, List, ◌∷◌, Bool, true, false, cond, not, refl, sym, ap, ◌∙◌, add_assoc, nat_le, ◌&&◌, ◌||◌, is_label_white, begins_character, hides, is_bracket, has_no_bracket, characters, is_filled}

-- what is left to be seen, behind so many characters, by whether a byte that is not white was among them and whether the next byte is hidden
abbrev pub label_from : ℕ → (filled hidden : Bool) → List ℕ → Bool
label_from n filled hidden bs = has_no_bracket hidden bs && (nat_le (n + characters bs) 999 && (filled || is_filled bs))

or-later : (a b c : Bool) → (a || (b || c)) ≡ ((a || b) || c)
or-later true b c = refl
or-later false b c = refl

passed : (x y : Bool) → x ≡ false → (not x && y) ≡ y
passed x y e = ap (λ x. not x && y) e

-- one byte more
pub from-more : (n : ℕ) (filled hidden : Bool) (b : ℕ) (bs : List ℕ) → (is_bracket b && not hidden) ≡ false
    → label_from n filled hidden (b ∷ bs) ≡ label_from (n + cond (begins_character b) 1 0) (filled || not (is_label_white b)) (hides hidden b) bs
from-more n filled hidden b bs e =
    ap (λ x. x && (nat_le (n + (cond (begins_character b) 1 0 + characters bs)) 999 && (filled || (not (is_label_white b) || is_filled bs)))) (passed (is_bracket b && not hidden) (has_no_bracket (hides hidden b) bs) e)
    ∙ ap (λ m. has_no_bracket (hides hidden b) bs && (nat_le m 999 && (filled || (not (is_label_white b) || is_filled bs)))) (sym (add_assoc n (cond (begins_character b) 1 0) (characters bs)))
    ∙ ap (λ t. has_no_bracket (hides hidden b) bs && (nat_le ((n + cond (begins_character b) 1 0) + characters bs) 999 && t)) (or-later filled (not (is_label_white b)) (is_filled bs))
