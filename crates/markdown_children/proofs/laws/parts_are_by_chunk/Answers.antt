use Rattle.markdown_children.proofs.Prelude.{◌≡◌, ℕ, suc, ◌+◌, not, List, [], ◌∷◌, drop, refl, ◌∙◌, ap, arith, take_while-cons, Event, Point, stands_before, parts, passed_over, chunk_numbers, part_numbers}
use Rattle.markdown_children.proofs.ChainOrder.Following.{by_test}
use Rattle.markdown_children.proofs.Parts.Kept.{joined-parts}
use Rattle.markdown_children.proofs.laws.parts_are_by_chunk.Goals as goal

abbrev Same : List Point → ℕ → List Event → Type 0
Same ends c es = part_numbers c (parts ends es) ≡ chunk_numbers ends c es

one : (end : Point) (c : ℕ) (es : List Event) → Same (end ∷ []) c es
one end c [] = refl
one end c (e ∷ es) = let z : c ≡ c + 0 = omega arith in ap (λ ks. c ∷ ks) (one end c es) ∙ (λ j. z j ∷ chunk_numbers (end ∷ []) (z j) es)

several : (end next : Point) (ends : List Point) → ((c : ℕ) (es : List Event) → Same (next ∷ ends) c es) → (c : ℕ) (es : List Event) → Same (end ∷ next ∷ ends) c es
several end next ends ih c [] = ih (c + 1) []
several end next ends ih c (e ∷ es) = by_test (stands_before end e.point)
    (λ s.
    let m : ℕ = passed_over (next ∷ ends) e.point in
    let z : c + 1 + m ≡ c + suc m = omega arith in
    rw (take_while-cons (λ (x : Event). not (stands_before end x.point)) e es, s) (ih (c + 1) (e ∷ es) ∙ (λ j. z j ∷ chunk_numbers (drop m (next ∷ ends)) (z j) es)))
    (λ s.
    let z : c ≡ c + 0 = omega arith in
    rw (take_while-cons (λ (x : Event). not (stands_before end x.point)) e es, s) (ap (λ ks. c ∷ ks) (several end next ends ih c es) ∙ (λ j. z j ∷ chunk_numbers (end ∷ next ∷ ends) (z j) es)))

same-numbers : (end : Point) (ends : List Point) (c : ℕ) (es : List Event) → Same (end ∷ ends) c es
same-numbers end [] c es = one end c es
same-numbers end (next ∷ ends) c es = several end next ends (same-numbers next ends) c es

pub returns : goal.returns
returns c end ends child = record { all = joined-parts end ends child; numbers = same-numbers end ends 0 child }
