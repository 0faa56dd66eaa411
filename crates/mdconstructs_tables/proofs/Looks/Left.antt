-- What is left of a list from a position on.
use Rattle.std.proofs.Common.{◌≡◌, ℕ, zero, suc, ◌-◌, ◌≤◌, ◌∷◌, List, [], Some, sym, ap, ◌∙◌, arith, drop, length, slice_get}
use Rattle.std.proofs.lemmas.List.{length-drop}

-- the element at a position
pub at-front : {X : Type 0} (xs : List X) (p : ℕ) (x : X) (rest : List X) → drop p xs ≡ x ∷ rest → slice_get xs p ≡ Some x
at-front (y ∷ ys) zero x rest h = let e : y ≡ x = cc in ap Some e
at-front (y ∷ ys) (suc p) x rest h = at-front ys p x rest h
at-front [] zero x rest h = absurd (cc)
at-front [] (suc p) x rest h = absurd (cc)

-- a position with nothing at it is past the end
pub past-end : {X : Type 0} (xs : List X) (p : ℕ) → drop p xs ≡ [] → length xs ≤ p
past-end xs p h = let none : length xs - p ≡ 0 = sym (length-drop p xs) ∙ ap length h in omega (arith, none)
