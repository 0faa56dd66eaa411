-- How long a code span is: it is no longer than the text, and has its opening backtick string in it.
use Rattle.mdinline_text_machine.proofs.Prelude.{◌≡◌, ℕ, ◌<◌, ◌≤◌, ◌∷◌, List, false, Option, Some, None, refl, sym, ap, subst, arith, length, drop, option_map, length-drop, prefix_len-le-length, Event, Seat, is_backtick, backticks, code_span_found, code_span_with, item_length}
use Rattle.mdinline_text_machine.proofs.CodeSpans.Found.{code-span-found, first-run-is, first_run}
use Rattle.mdinline_text_machine.proofs.CodeSpans.Parts.{run-positive}
use Rattle.mdinline_text_machine.proofs.Constructs.Apart.{OfOption}

module _ (between_them : List ℕ → List Seat → List Event) (b : ℕ) (bs : List ℕ) (is : b ≡ 96) where
  abbrev text : List ℕ
  text = b ∷ bs

  abbrev k : ℕ
  k = backticks text

  found-within : (o : Option ℕ) → first_run k false (drop k text) ≡ o → OfOption (λ item. (item_length item ≤ length text) × (k ≤ item_length item)) (option_map (code_span_with between_them k) o)
  found-within None h = tt
  found-within (Some m) h =
      let rest = drop k text in
      let closing : backticks (drop m rest) ≡ k = first-run-is k false rest m h in
      let some : 0 < k = run-positive b bs (ap is_backtick is) in
      (omega (arith, closing, some, prefix_len-le-length is_backtick (drop m rest), length-drop m rest, length-drop k text), omega arith)

  pub code-span-within : OfOption (λ item. (item_length item ≤ length text) × (k ≤ item_length item)) (code_span_found between_them text)
  code-span-within = subst (OfOption (λ item. (item_length item ≤ length text) × (k ≤ item_length item))) (sym (code-span-found between_them b bs is)) (found-within (first_run k false (drop k text)) refl)
