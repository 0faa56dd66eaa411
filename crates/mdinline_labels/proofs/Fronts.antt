-- Definitions at the front of a text, one by one.
use Rattle.mdinline_labels.proofs.Prelude.{◌≡◌, ℕ, zero, suc, ◌+◌, ◌-◌, ◌<◌, ◌≤◌, List, [], ◌∷◌, Option, Some, None, drop, take, length, refl, sym, ap, ◌∙◌, arith, add-one, length-drop, common_steps, drop-drop, drop_all, Definition, definition_at, definitions, definitions_from, rest, rest_from}

pub passed : (n : ℕ) (xs : List ℕ) → definitions_from n xs ≡ definitions (drop n xs)
passed zero xs = refl
passed (suc n) [] = refl
passed (suc n) (x ∷ xs) = passed n xs

pub passed-rest : (n : ℕ) (xs : List ℕ) → rest_from n xs ≡ rest (drop n xs)
passed-rest zero xs = refl
passed-rest (suc n) [] = refl
passed-rest (suc n) (x ∷ xs) = passed-rest n xs

-- one definition, and those in the lines behind it
pub one-more : (xs : List ℕ) (d : Definition) → 0 < length xs → definition_at xs ≡ Some d → definitions xs ≡ d ∷ definitions (drop (d.size + 1) xs)
one-more [] d some e = absurd (omega arith)
one-more (x ∷ xs) d some e =
    ap (λ (o : Option Definition). elim o as (λ _. List Definition) [ None ↦ [] | Some d ↦ d ∷ definitions_from d.size xs ]) e
    ∙ ap (λ ds. d ∷ ds) (passed d.size xs) ∙ ap (λ n. d ∷ definitions (drop n (x ∷ xs))) (sym (add-one d.size))

pub rest-more : (xs : List ℕ) (d : Definition) → 0 < length xs → definition_at xs ≡ Some d → rest xs ≡ rest (drop (d.size + 1) xs)
rest-more [] d some e = absurd (omega arith)
rest-more (x ∷ xs) d some e =
    ap (λ (o : Option Definition). elim o as (λ _. List ℕ) [ None ↦ x ∷ xs | Some d ↦ rest_from d.size xs ]) e
    ∙ passed-rest d.size xs ∙ ap (λ n. rest (drop n (x ∷ xs))) (sym (add-one d.size))

-- no definition
pub no-more : (xs : List ℕ) → definition_at xs ≡ None → definitions xs ≡ []
no-more [] e = refl
no-more (x ∷ xs) e = ap (λ (o : Option Definition). elim o as (λ _. List Definition) [ None ↦ [] | Some d ↦ d ∷ definitions_from d.size xs ]) e

pub no-rest : (xs : List ℕ) → definition_at xs ≡ None → rest xs ≡ xs
no-rest [] e = refl
no-rest (x ∷ xs) e = ap (λ (o : Option Definition). elim o as (λ _. List ℕ) [ None ↦ x ∷ xs | Some d ↦ rest_from d.size xs ]) e

-- a list ends before two places
pub past-end : (xs : List ℕ) (m n : ℕ) → length xs ≤ m → length xs ≤ n → drop m xs ≡ drop n xs
past-end xs m n a b = drop_all m xs a ∙ sym (drop_all n xs b)

-- what is left of a slice
pub tail : (n : ℕ) (xs : List ℕ) → take (length xs - n) (drop n xs) ≡ drop n xs
tail n xs = grind (arith, common_steps)

-- one definition within a text
pub one-behind : (xs : List ℕ) (next m : ℕ) (d : Definition) → next < length xs → definition_at (drop next xs) ≡ Some d → drop m xs ≡ drop (next + (d.size + 1)) xs
    → (definitions (drop next xs) ≡ d ∷ definitions (drop m xs)) × (rest (drop next xs) ≡ rest (drop m xs))
one-behind xs next m d below e place =
    let some : 0 < length (drop next xs) = omega (arith, length-drop next xs) in
    let same : drop (d.size + 1) (drop next xs) ≡ drop m xs = drop-drop (d.size + 1) next xs ∙ sym place in (
      one-more (drop next xs) d some e ∙ ap (λ ys. d ∷ definitions ys) same,
      rest-more (drop next xs) d some e ∙ ap (λ ys. rest ys) same,
    )
