-- Lemmas on the texts of paragraphs.
use Rattle.std.proofs.Common.{◌≡◌, ◌==◌, ◌≤◌, ◌∙◌, ℕ, zero, suc, List, [], ◌∷◌, Bool, true, false, ap, arith, cond, drop, filter, length, refl}
use Rattle.std.proofs.lemmas.Bool.Decides.{nat_tests}
use Rattle.mdblock_containers.specs.Rows.{has_none}
use Rattle.mdinline_labels.specs.Definitions.{rest}
use Rattle.mdblock_definitions.specs.Rows.{is_used_up}
use Rattle.mdblock_definitions.specs.Sections.{lines_of}

none-left : (n : ℕ) (xs : List ℕ) → n ≤ length xs → (n == length xs) ≡ has_none (drop n xs)
none-left zero [] h = refl
none-left zero (x ∷ xs) h = grind (arith, nat_tests)
none-left (suc n) [] h = absurd (omega (arith, h))
none-left (suc n) (x ∷ xs) h =
    let same : (suc n == suc (length xs)) ≡ (n == length xs) = grind (arith, nat_tests) in
    same ∙ none-left n xs (omega (arith, h))

-- a text is used up if its definitions end where it ends
pub used_up : (n : ℕ) (text : List ℕ) → drop n text ≡ rest text → n ≤ length text → (n == length text) ≡ is_used_up text
used_up n text e h = none-left n text h ∙ ap has_none e

line-more : (x : ℕ) (xs : List ℕ) → lines_of xs ≤ lines_of (x ∷ xs)
line-more x [] = omega (arith)
line-more x (y ∷ ys) = by (x == 10)
  where
    by : (b : Bool) → suc (length (filter (λ c. c == 10) (y ∷ ys))) ≤ suc (length (cond b (x ∷ filter (λ c. c == 10) (y ∷ ys)) (filter (λ c. c == 10) (y ∷ ys))))
    by true = omega (arith)
    by false = omega (arith)

-- what is left of a text has no more lines
pub fewer_lines : (n : ℕ) (text : List ℕ) → lines_of (drop n text) ≤ lines_of text
fewer_lines zero text = omega (arith)
fewer_lines (suc n) [] = omega (arith)
fewer_lines (suc n) (x ∷ xs) = omega (arith, fewer_lines n xs, line-more x xs)
