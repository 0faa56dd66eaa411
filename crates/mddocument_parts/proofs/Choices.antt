-- Choices and filters, with a function: what it gives of a choice is the choice of what it gives.
use Rattle.std.proofs.Common.{Bool, List, [], arith, cond, false, map, refl, true, ◌∷◌, ◌≡◌}
use Rattle.std.specs.Prelude.{filter}

pub cond-of : {A B : Type 0} (f : A → B) (b : Bool) (x y : A) → cond b (f x) (f y) ≡ f (cond b x y)
cond-of f true x y = refl
cond-of f false x y = refl

-- ---- filters
pub filter-mapped : {A B : Type 0} (f : B → Bool) (g : A → Bool) (h : A → B) → ((x : A) → f (h x) ≡ g x) → (xs : List A) → filter f (map h xs) ≡ map h (filter g xs)
filter-mapped f g h e [] = refl
filter-mapped f g h e (x ∷ xs) = let same = e x in let more = filter-mapped f g h e xs in grind arith
