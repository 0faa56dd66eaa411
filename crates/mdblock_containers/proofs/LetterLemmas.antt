-- Lemmas on letters in a document.
use Rattle.std.proofs.Common.{◌≡◌, ℕ, zero, suc, ◌+◌, ◌<◌, ◌≤◌, Bool, true, false, cond, List, [], ◌∷◌, ◌++◌, length, take, get_or, set, refl, sym, ap, ◌∙◌, arith, eq-eqb, ne_eqb}
use Rattle.std.specs.Prelude.{◌==◌, ◌||◌}
use Rattle.std.specs.List.{list_any}
use Rattle.std.proofs.lemmas.List.{take_more}
use Rattle.std.proofs.lemmas.List.Folds.{list_any-append}
use Rattle.mdblock_containers.specs.Letters.{letter, lettered_from, with_letters}

-- letters at these and those indices
letters_of_both : (n : ℕ) (at more bs : List ℕ) → lettered_from n more (lettered_from n at bs) ≡ lettered_from n (at ++ more) bs
letters_of_both n at more [] = refl
letters_of_both n at more (b ∷ bs) =
    (λ k. by (list_any (λ i. i == n) at) (list_any (λ i. i == n) more) k ∷ letters_of_both (suc n) at more bs k)
    ∙ ap (λ x. cond x letter b ∷ lettered_from (suc n) (at ++ more) bs) (sym (list_any-append (λ i. i == n) at more))
  where
    by : (x y : Bool) → cond y letter (cond x letter b) ≡ cond (x || y) letter b
    by true true = refl
    by true false = refl
    by false true = refl
    by false false = refl

pub with_more_letters : (at more bs : List ℕ) → with_letters more (with_letters at bs) ≡ with_letters (at ++ more) bs
with_more_letters at more bs = letters_of_both 0 at more bs

pub no_letters_from : (n : ℕ) (bs : List ℕ) → lettered_from n [] bs ≡ bs
no_letters_from n [] = refl
no_letters_from n (b ∷ bs) = ap (λ l. b ∷ l) (no_letters_from (suc n) bs)

pub no_letters : (bs : List ℕ) → with_letters [] bs ≡ bs
no_letters bs = no_letters_from 0 bs

-- an index before or behind all bytes
letter_before : (n index : ℕ) (bs : List ℕ) → index < n → lettered_from n (index ∷ []) bs ≡ bs
letter_before n index [] h = refl
letter_before n index (b ∷ bs) h = (λ k. cond (ne_eqb index n (λ e. omega (arith, h, e)) k || false) letter b ∷ letter_before (suc n) index bs (omega (arith, h)) k)

letter_behind : (n index : ℕ) (bs : List ℕ) → n + length bs ≤ index → lettered_from n (index ∷ []) bs ≡ bs
letter_behind n index [] h = refl
letter_behind n index (b ∷ bs) h = (λ k. cond (ne_eqb index n (λ e. omega (arith, h, e)) k || false) letter b ∷ letter_behind (suc n) index bs (omega (arith, h)) k)

letter_in : (n m : ℕ) (bs : List ℕ) → m < length bs → lettered_from n ((n + m) ∷ []) bs ≡ set bs m letter
letter_in n m [] h = absurd (omega (arith, h))
letter_in n zero (b ∷ bs) h =
    let here : n + 0 ≡ n = omega arith in
    (λ k. cond (eq-eqb (n + 0) n here k || false) letter b ∷ letter_before (suc n) (n + 0) bs (omega arith) k)
letter_in n (suc m) (b ∷ bs) h =
    let next : n + suc m ≡ suc n + m = omega arith in
    (λ k. cond (ne_eqb (n + suc m) n (λ e. omega (arith, e)) k || false) letter b ∷ (ap (λ i. lettered_from (suc n) (i ∷ []) bs) next ∙ letter_in (suc n) m bs (omega (arith, h))) k)

pub one_letter : (index : ℕ) (bs : List ℕ) → index < length bs → set bs index letter ≡ with_letters (index ∷ []) bs
one_letter index bs h = let all : 0 + index ≡ index = omega arith in sym (letter_in 0 index bs h) ∙ ap (λ i. with_letters (i ∷ []) bs) all

pub no_letter : (index : ℕ) (bs : List ℕ) → length bs ≤ index → bs ≡ with_letters (index ∷ []) bs
no_letter index bs h = sym (letter_behind 0 index bs (omega (arith, h)))

-- one index more in a loop
pub letters_step : (at bs old new : List ℕ) (i : ℕ) → i < length at → old ≡ with_letters (take i at) bs → new ≡ with_letters (get_or at i 0 ∷ []) old → new ≡ with_letters (take (i + 1) at) bs
letters_step at bs old new i h before now =
    now ∙ ap (with_letters (get_or at i 0 ∷ [])) before ∙ with_more_letters (take i at) (get_or at i 0 ∷ []) bs ∙ ap (λ l. with_letters l bs) (sym (take_more at i 0 h))
