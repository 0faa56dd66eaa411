-- Lemmas on the text of lines.
use Rattle.std.proofs.Common.{◌≡◌, ◌+◌, ◌∙◌, ℕ, zero, suc, List, [], ◌∷◌, ◌++◌, true, ap, append-nil, append_assoc, arith, cond, drop, refl, subst, sym, take}
use Rattle.std.specs.Prelude.{not}
use Rattle.mdblock_containers.specs.declared.spans.RowAt.{RowAt}
use Rattle.mdblock_containers.specs.Rows.{Row, has_none, rest_of}
use Rattle.mdblock_definitions.specs.Held.{HasText, HaveTexts}
use Rattle.mdblock_definitions.specs.Sections.{text_in}

-- one line more
pub text-more : (rs : List Row) (r : Row) → text_in (rs ++ r ∷ []) ≡ cond (not (has_none rs)) (text_in rs ++ 10 ∷ rest_of r) (rest_of r)
text-more [] r = append-nil (rest_of r)
text-more (x ∷ []) r = ap (λ t. rest_of x ++ 10 ∷ t) (append-nil (rest_of r)) ∙ ap (λ t. t ++ 10 ∷ rest_of r) (sym (append-nil (rest_of x)))
text-more (x ∷ y ∷ rs) r =
    ap (λ t. rest_of x ++ 10 ∷ t) (text-more (y ∷ rs) r) ∙ sym (append_assoc (rest_of x) (10 ∷ text_in (y ∷ rs)) (10 ∷ rest_of r))

next-taken : (i : ℕ) (all : List Row) (r : Row) (rs : List Row) → drop i all ≡ r ∷ rs → (take (i + 1) all ≡ take i all ++ r ∷ []) × (drop (i + 1) all ≡ rs)
next-taken i [] r rs e = absurd (nothing i e)
  where
    nothing : (i : ℕ) → drop i [] ≡ r ∷ rs → ⊥
    nothing zero e = cc
    nothing (suc i) e = cc
next-taken zero (x ∷ all) r rs e = (ap (λ (l : List Row). take 1 l) e, ap (λ (l : List Row). drop 1 l) e)
next-taken (suc i) (x ∷ all) r rs e =
    let more = next-taken i all r rs e in
    let shifted : suc i + 1 ≡ suc (i + 1) = omega (arith) in
    (ap (λ m. take m (x ∷ all)) shifted ∙ ap (λ l. x ∷ l) more.0, ap (λ m. drop m (x ∷ all)) shifted ∙ more.1)

module _ (t : ℕ) (bytes : List ℕ) where
  pub record HasNext (x : RowAt) (xs : List RowAt) (i : ℕ) (all : List Row) : Type 0 where
    pub row : Row
    pub has : HasText t bytes x row
    pub taken : take (i + 1) all ≡ take i all ++ row ∷ []
    pub left : HaveTexts t bytes xs (drop (i + 1) all)

  pub next-text : (x : RowAt) (xs : List RowAt) (i : ℕ) (all : List Row) → HaveTexts t bytes (x ∷ xs) (drop i all) → HasNext x xs i all
  next-text x xs i all h = by (drop i all) refl h
    where
      by : (rs : List Row) → drop i all ≡ rs → HaveTexts t bytes (x ∷ xs) rs → HasNext x xs i all
      by [] e k = absurd k
      by (r ∷ rs) e k =
          let next = next-taken i all r rs e in
          record { row = r; has = k.0; taken = next.0; left = subst (λ (l : List Row). HaveTexts t bytes xs l) (sym next.1) k.1 }

  pub none-left : (all : List Row) (i : ℕ) → HaveTexts t bytes [] (drop i all) → take i all ≡ all
  none-left [] zero h = refl
  none-left [] (suc i) h = refl
  none-left (r ∷ rs) zero h = absurd h
  none-left (r ∷ rs) (suc i) h = ap (λ l. r ∷ l) (none-left rs i h)

filled-front : (xs : List Row) (r : Row) → not (has_none (xs ++ r ∷ [])) ≡ true
filled-front [] r = refl
filled-front (x ∷ xs) r = refl

pub goes-on-then : (i : ℕ) (all : List Row) (r : Row) → take (i + 1) all ≡ take i all ++ r ∷ [] → true ≡ not (has_none (take (i + 1) all))
goes-on-then i all r e = sym (ap (λ (l : List Row). not (has_none l)) e ∙ filled-front (take i all) r)
