-- Bytes that stand for themselves are written together.
use Rattle.std.proofs.Common.{◌≡◌, ℕ, zero, suc, ◌+◌, ◌≤◌, List, [], ◌∷◌, ◌++◌, length, take, drop, refl, ap, sym, ◌∙◌, arith, append_assoc}
use Rattle.std.specs.List.{flat_map, list_all, prefix_len}
use Rattle.std.specs.Prelude.{◌==◌, ◌||◌, not, Bool, true, false, cond, codes}
use Rattle.std.proofs.Math.Bool.{not-not}
use Rattle.std.proofs.lemmas.Bool.{and_parts, false≢true}
use Rattle.mdhtml_markup.specs.Escapes.{escaped, escaped_byte, replacement}
use Rattle.mdhtml_markup.specs.SafeHtml.{is_mark}

-- of bytes of which the first pass, those are written together, if each that passes stands for itself
module _ (f : ℕ → List ℕ) (p : ℕ → Bool) (itself : (b : ℕ) → p b ≡ true → f b ≡ b ∷ []) where
  abbrev size : List ℕ → ℕ
  size text = prefix_len p text

  pub apart : (text : List ℕ) → take (size text) text ++ flat_map f (drop (size text) text) ≡ flat_map f text
  apart [] = refl
  apart (b ∷ bs) = by (p b) refl (apart bs)
    where
      split : ℕ → List ℕ
      split n = take n (b ∷ bs) ++ flat_map f (drop n (b ∷ bs))

      by : (t : Bool) → p b ≡ t → take (size bs) bs ++ flat_map f (drop (size bs) bs) ≡ flat_map f bs → split (cond (p b) (1 + size bs) 0) ≡ flat_map f (b ∷ bs)
      by true e rest =
          let one : 1 + size bs ≡ suc (size bs) = omega arith in
          ap (λ t. split (cond t (1 + size bs) 0)) e ∙ ap split one ∙ ap (λ x. b ∷ x) rest ∙ sym (ap (λ x. x ++ flat_map f bs) (itself b e))
      by false e rest = ap (λ t. split (cond t (1 + size bs) 0)) e

-- of bytes of which the first ones all pass, the others are looked at by themselves
pub passed : (p : ℕ → Bool) (n : ℕ) (bs : List ℕ) → n ≤ length bs → list_all p (take n bs) ≡ true → n + prefix_len p (drop n bs) ≡ prefix_len p bs
passed p zero bs within all = omega arith
passed p (suc n) [] within all = absurd (omega (arith, within))
passed p (suc n) (b ∷ bs) within all =
    let parts = and_parts (p b) (list_all p (take n bs)) all in
    let more = passed p n bs (omega (arith, within)) parts.1 in
    let next : suc n + prefix_len p (drop n bs) ≡ 1 + prefix_len p bs = omega (arith, more) in
    next ∙ sym (ap (λ t. cond t (1 + prefix_len p bs) 0) parts.0)

-- a byte that is no mark stands for itself
picked : (a l g q x z : Bool) (b : ℕ) → ((l || (g || (a || (q || false)))) || (z || x)) ≡ false
    → cond a (codes "&amp;") (cond l (codes "&lt;") (cond g (codes "&gt;") (cond q (codes "&quot;") (cond x (codes "&#x1B;") (cond z replacement (b ∷ [])))))) ≡ b ∷ []
picked a true g q x z b e = absurd (false≢true (sym e))
picked a false true q x z b e = absurd (false≢true (sym e))
picked true false false q x z b e = absurd (false≢true (sym e))
picked false false false true x z b e = absurd (false≢true (sym e))
picked false false false false x true b e = absurd (false≢true (sym e))
picked false false false false true false b e = absurd (false≢true (sym e))
picked false false false false false false b e = refl

pub plain : (b : ℕ) → not (is_mark b) ≡ true → escaped_byte b ≡ b ∷ []
plain b e = picked (b == 38) (b == 60) (b == 62) (b == 34) (b == 27) (b == 0) b (sym (not-not (is_mark b)) ∙ ap not e)

-- what was written of a text, with its first bytes that stand for themselves behind it
pub run : (out text : List ℕ) → (out ++ take (prefix_len (λ b. not (is_mark b)) text) text) ++ escaped (drop (prefix_len (λ b. not (is_mark b)) text) text) ≡ out ++ escaped text
run out text =
    let n = prefix_len (λ b. not (is_mark b)) text in
    append_assoc out (take n text) (escaped (drop n text)) ∙ ap (λ x. out ++ x) (apart escaped_byte (λ b. not (is_mark b)) plain text)
