-- Lemmas on seats: where they end, and the order of their places.
use Rattle.markdown_base.proofs.Prelude.{◌≡◌, false, List, [], ◌∷◌, ◌++◌, refl, arith, nat_tests, Point, stands_before, Seat, end_after}

-- two lists of seats end where the second ends, after the first
pub end-after-append : (p : Point) (a b : List Seat) → end_after p (a ++ b) ≡ end_after (end_after p a) b
end-after-append p [] b = refl
end-after-append p (s ∷ a) b = end-after-append s.end a b

-- a list of seats ends where its last one ends
pub end-after-one : (p : Point) (xs : List Seat) (s : Seat) → end_after p (xs ++ s ∷ []) ≡ s.end
end-after-one p [] s = refl
end-after-one p (x ∷ xs) s = end-after-one x.end xs s

-- no place is before itself
pub stands-self : (p : Point) → stands_before p p ≡ false
stands-self p = grind (arith, nat_tests)
