-- The literals of a text, one literal or byte on.
use Rattle.std.proofs.Common.{◌≡◌, ℕ, zero, suc, ◌+◌, ◌-◌, ◌<◌, ◌≤◌, ◌++◌, List, [], ◌∷◌, length, drop, Option, Some, None, refl, sym, ap, ◌∙◌, arith}
use Rattle.std.proofs.lemmas.List.{append-nil, append_assoc, drop-drop, drop_all, length-drop}
use Rattle.std.specs.Prelude.{slice_get}
use Rattle.mdgfm_literals.specs.declared.found.Found.{Found}
use Rattle.mdgfm_literals.specs.declared.texts.Literal.{Literal}
use Rattle.mdgfm_literals.specs.Grammar.{literal_at}
use Rattle.mdgfm_literals.specs.Literals.{literals_from, more_passed}

-- what is passed is left out
pub literals-skip : (skip : ℕ) (before : Option ℕ) (at : ℕ) (text : List ℕ) → literals_from skip before at text ≡ literals_from 0 before (at + skip) (drop skip text)
literals-skip zero before at text = let z : at ≡ at + 0 = omega arith in ap (λ i. literals_from 0 before i text) z
literals-skip (suc skip) before at [] = refl
literals-skip (suc skip) before at (b ∷ bs) =
    let z : at + 1 + skip ≡ at + suc skip = omega arith in literals-skip skip before (at + 1) bs ∙ ap (λ i. literals_from 0 before i (drop skip bs)) z

abbrev pub of_found : (at : ℕ) → Found → Literal
of_found at f = record { from = at; to = at + f.size; name = f.name }

-- a literal is at the front
pub literals-found : (before : Option ℕ) (at : ℕ) (text : List ℕ) (f : Found) → 0 < length text → literal_at before text ≡ Some f → 1 ≤ f.size
    → literals_from 0 before at text ≡ of_found at f ∷ literals_from 0 None (at + f.size) (drop f.size text)
literals-found before at [] f some e size = absurd (omega (arith, some))
literals-found before at (b ∷ bs) f some e size =
    ap (λ (o : Option Found). elim o as (λ o. List Literal) [
      | Some f ↦ of_found at f ∷ literals_from (f.size - 1) None (at + 1) bs
      | None ↦ literals_from (more_passed (b ∷ bs)) (slice_get (b ∷ bs) (more_passed (b ∷ bs))) (at + 1) bs
    ]) e
    ∙ ap (λ ls. of_found at f ∷ ls) (behind f.size size)
  where
    behind : (n : ℕ) → 1 ≤ n → literals_from (n - 1) None (at + 1) bs ≡ literals_from 0 None (at + n) (drop n (b ∷ bs))
    behind zero h = absurd (omega (arith, h))
    behind (suc n) h =
        let one : suc n - 1 ≡ n = omega arith in
        let z : at + 1 + n ≡ at + suc n = omega arith in
        ap (λ k. literals_from k None (at + 1) bs) one ∙ literals-skip n None (at + 1) bs ∙ ap (λ i. literals_from 0 None i (drop n bs)) z

-- none is
pub literals-none : (before : Option ℕ) (at : ℕ) (text : List ℕ) → 0 < length text → literal_at before text ≡ None
    → literals_from 0 before at text ≡ literals_from 0 (slice_get text (more_passed text)) (at + (1 + more_passed text)) (drop (1 + more_passed text) text)
literals-none before at [] some e = absurd (omega (arith, some))
literals-none before at (b ∷ bs) some e =
    ap (λ (o : Option Found). elim o as (λ o. List Literal) [
      | Some f ↦ of_found at f ∷ literals_from (f.size - 1) None (at + 1) bs
      | None ↦ literals_from (more_passed (b ∷ bs)) (slice_get (b ∷ bs) (more_passed (b ∷ bs))) (at + 1) bs
    ]) e
    ∙ behind (more_passed (b ∷ bs)) (slice_get (b ∷ bs) (more_passed (b ∷ bs)))
  where
    behind : (n : ℕ) (p : Option ℕ) → literals_from n p (at + 1) bs ≡ literals_from 0 p (at + (1 + n)) (drop (1 + n) (b ∷ bs))
    behind n p =
        let one : suc n ≡ 1 + n = omega arith in
        let z : at + 1 + n ≡ at + (1 + n) = omega arith in
        literals-skip n p (at + 1) bs ∙ ap (λ i. literals_from 0 p i (drop n bs)) z ∙ ap (λ k. literals_from 0 p (at + (1 + n)) (drop k (b ∷ bs))) one

-- ---- in the loop over a text: what was added, and what comes

module _ (whole all : List Literal) (before : Option ℕ) (start at : ℕ) (text : List ℕ) (inside : at < length text)
    (so_far : all ++ literals_from 0 before (start + at) (drop at text) ≡ whole) where
  some : 0 < length (drop at text)
  some = omega (arith, length-drop at text)

  on : (n : ℕ) → drop n (drop at text) ≡ drop (at + n) text
  on n = drop-drop n at text

  pub found-next : (f : Found) → literal_at before (drop at text) ≡ Some f → 1 ≤ f.size
      → (all ++ of_found (start + at) f ∷ []) ++ literals_from 0 None (start + (at + f.size)) (drop (at + f.size) text) ≡ whole
  found-next f e size =
      let sum : start + (at + f.size) ≡ start + at + f.size = omega arith in
      append_assoc all (of_found (start + at) f ∷ []) (literals_from 0 None (start + (at + f.size)) (drop (at + f.size) text))
      ∙ ap (λ ls. all ++ of_found (start + at) f ∷ ls) (
      ap (λ i. literals_from 0 None i (drop (at + f.size) text)) sum
      ∙ ap (literals_from 0 None (start + at + f.size)) (sym (on f.size)))
      ∙ ap (λ ls. all ++ ls) (sym (literals-found before (start + at) (drop at text) f some e size))
      ∙ so_far

  pub none-next : literal_at before (drop at text) ≡ None
      → all ++ literals_from 0 (slice_get (drop at text) (more_passed (drop at text))) (start + (at + (1 + more_passed (drop at text)))) (drop (at + (1 + more_passed (drop at text))) text) ≡ whole
  none-next e =
      let m = more_passed (drop at text) in
      let sum : start + (at + (1 + m)) ≡ start + at + (1 + m) = omega arith in
      ap (λ ls. all ++ ls) (
      ap (λ i. literals_from 0 (slice_get (drop at text) m) i (drop (at + (1 + m)) text)) sum
      ∙ ap (literals_from 0 (slice_get (drop at text) m) (start + at + (1 + m))) (sym (on (1 + m)))
      ∙ sym (literals-none before (start + at) (drop at text) some e))
      ∙ so_far

-- no more comes
pub no-more : (whole all : List Literal) (before : Option ℕ) (start at : ℕ) (text : List ℕ) → length text ≤ at
    → all ++ literals_from 0 before (start + at) (drop at text) ≡ whole → all ≡ whole
no-more whole all before start at text past so_far =
    sym (append-nil all) ∙ ap (λ ts. all ++ literals_from 0 before (start + at) ts) (sym (drop_all at text past)) ∙ so_far
