-- Facts of truth values and choices between two.
use Rattle.markdown_base.proofs.Prelude.{◌≡◌, Bool, true, false, cond, refl, ◌&&◌}

-- both choices are one
pub cond-same : {A : Type 0} (t : Bool) (x : A) → cond t x x ≡ x
cond-same true x = refl
cond-same false x = refl

-- a test is what it chooses
pub cond-itself : (t : Bool) → cond t true false ≡ t
cond-itself true = refl
cond-itself false = refl

-- a choice of nothing is a test more
pub cond-and : (t u : Bool) → cond t u false ≡ (t && u)
cond-and true u = refl
cond-and false u = refl

-- the left part of `a && b`
pub and-left : (a b : Bool) → (a && b) ≡ true → a ≡ true
and-left true b h = refl
and-left false b h = h
