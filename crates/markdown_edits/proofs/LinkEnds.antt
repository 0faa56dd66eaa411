-- Lists with one event changed.
use Rattle.markdown_edits.proofs.Prelude.{◌≡◌, ℕ, zero, suc, ◌<◌, List, [], ◌∷◌, length, get_or, set, refl, ap, arith, IsSomeAnd, Event, updated_at}
use Rattle.std.specs.Prelude.{slice_get}

-- as many events as before
pub updated-length : (i : ℕ) (f : Event → Event) (xs : List Event) → length (updated_at i f xs) ≡ length xs
updated-length i f [] = refl
updated-length zero f (x ∷ xs) = refl
updated-length (suc i) f (x ∷ xs) = ap suc (updated-length i f xs)

-- a write of the changed event is the change
pub set-updated_at : (i : ℕ) (f : Event → Event) (es : List Event) (d : Event) → i < length es → set es i (f (get_or es i d)) ≡ updated_at i f es
set-updated_at i f [] d l = absurd (omega arith)
set-updated_at zero f (e ∷ es) d l = refl
set-updated_at (suc i) f (e ∷ es) d l = ap (λ r. e ∷ r) (set-updated_at i f es d (omega arith))

-- an index at which there is an event is inside
pub some-within : (P : Event → Type 0) (i : ℕ) (es : List Event) → IsSomeAnd (slice_get es i) P → i < length es
some-within P i [] h = absurd h
some-within P zero (e ∷ es) h = omega arith
some-within P (suc i) (e ∷ es) h = let l = some-within P i es h in omega (arith, l)
