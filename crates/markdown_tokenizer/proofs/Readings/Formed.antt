-- What holds of a list of events holds without its first event.
use Rattle.markdown_tokenizer.proofs.Prelude.{◌≡◌, suc, ◌+◌, List, ◌∷◌, arith, AllPairs, Event}
use Rattle.markdown_base.specs.Events.{IsVoidTight}

pub tight-behind : (x : Event) (xs : List Event) → IsVoidTight (x ∷ xs) → IsVoidTight xs
tight-behind x xs h k e is enters void =
    let n : suc k + 1 ≡ suc (k + 1) = omega arith in
    let next = h (suc k) e is enters void in
    rw n at next

pub pairs-behind : (R : Event → Event → Type 0) (x : Event) (xs : List Event) → AllPairs R (x ∷ xs) → AllPairs R xs
pairs-behind R x xs h i j d less within = h (suc i) (suc j) d (omega (arith, less)) (omega (arith, within))
