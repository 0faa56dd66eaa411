-- The normal form of collapsed bytes, by whether they are UTF-8.
use Rattle.mdinline_labels.proofs.Prelude.{◌≡◌, ℕ, List, cond, inl, inr, map, sym, ap, ◌∙◌, IsUtf8, to_ascii_uppercase, is_utf8, cases_Bool, folded_text, IsUtf8-from_is_utf8, is_utf8-from_IsUtf8}

abbrev pub cased : List ℕ → List ℕ
cased bs = cond (is_utf8 bs) (folded_text bs) (map to_ascii_uppercase bs)

-- a text
pub of-text : (bs text : List ℕ) → text ≡ bs → IsUtf8 bs → folded_text text ≡ cased bs
of-text bs text same is = ap folded_text same ∙ sym (ap (λ t. cond t (folded_text bs) (map to_ascii_uppercase bs)) (is_utf8-from_IsUtf8 bs is))

-- bytes that are none
pub of-bytes : (bs : List ℕ) → (IsUtf8 bs → ⊥) → map to_ascii_uppercase bs ≡ cased bs
of-bytes bs h = elim (cases_Bool (is_utf8 bs)) [
  | inl b ↦ absurd (h (IsUtf8-from_is_utf8 bs b))
  | inr b ↦ sym (ap (λ t. cond t (folded_text bs) (map to_ascii_uppercase bs)) b)
]
