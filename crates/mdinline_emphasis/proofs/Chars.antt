-- The one character of bytes.
use Rattle.mdinline_emphasis.proofs.Prelude.{◌≡◌, ℕ, ◌-◌, min, take, drop, Bool, true, false, cond, List, [], ◌∷◌, ◌++◌, Option, Some, None, inl, inr, length, refl, sym, ap, ◌∙◌, arith, ◌==◌, slice_get, IsUtf8, chars, MatchOption, encode_utf8, is_some, is_utf8, cases_Bool, true≢false, nil_from_length, take_all, drop_min, length-drop, IsUtf8-from_is_utf8, is_utf8-from_IsUtf8, chars-nil, chars_past_char, only, char_of, class_of, class_at_end}

only-first : (c : ℕ) (cs : List ℕ) → only (c ∷ cs) ≡ cond (is_some (slice_get cs 0)) None (Some c)
only-first c [] = refl
only-first c (d ∷ cs) = refl

neither : (b : Bool) (o : Option ℕ) → o ≡ None → o ≡ cond b None o
neither true o h = h
neither false o h = refl

-- bytes that are no UTF-8 are no character
pub no-char : (bs : List ℕ) → (IsUtf8 bs → ⊥) → char_of bs ≡ None
no-char bs h = elim (cases_Bool (is_utf8 bs)) [
  | inl b ↦ absurd (h (IsUtf8-from_is_utf8 bs b))
  | inr b ↦ ap (λ t. cond t (only (chars bs)) None) b
]

-- the first character of a text, if there is no second one
pub char-read : {P : Type 0} (bs rest : List ℕ) (first second : Option ℕ) → IsUtf8 bs → (P → length bs ≡ 0) → MatchOption first P (λ c. bs ≡ encode_utf8 c ++ rest)
    → second ≡ slice_get (chars rest) 0 → char_of bs ≡ cond (is_some second) None first
char-read bs rest None second text empty h next =
    ap (λ t. cond t (only (chars bs)) None) (is_utf8-from_IsUtf8 bs text) ∙ ap (λ xs. only (chars xs)) (nil_from_length bs (empty h)) ∙ ap only chars-nil ∙ neither (is_some second) None refl
char-read bs rest (Some c) second text empty h next =
    ap (λ t. cond t (only (chars bs)) None) (is_utf8-from_IsUtf8 bs text) ∙ ap only (chars_past_char bs rest c text h) ∙ only-first c (chars rest)
    ∙ ap (λ o. cond (is_some o) None (Some c)) (sym next)

-- bytes that are not empty have a character at an end
pub some-byte : (bs : List ℕ) (c : ℕ) → (length bs == 0) ≡ false → class_at_end bs (Some c) ≡ class_of c
some-byte [] c h = absurd (true≢false h)
some-byte (b ∷ bs) c h = refl

-- the bytes from a place on, which may be behind the end
pub bytes-from : (bs : List ℕ) (i m : ℕ) → m ≡ min i (length bs) → take (length bs - m) (drop m bs) ≡ drop i bs
bytes-from bs i m is = take_all (length bs - m) (drop m bs) (let long = length-drop m bs in omega (arith, long)) ∙ ap (λ n. drop n bs) is ∙ drop_min i bs
