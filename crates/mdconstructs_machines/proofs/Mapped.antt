-- A function at the first items of a list.
use Rattle.mdconstructs_machines.proofs.Prelude.{◌≡◌, ℕ, zero, suc, ◌<◌, ◌≤◌, List, [], ◌∷◌, length, map, get_or, slice_set, refl, ap, arith}

-- f of the first n items, and the others
abbrev pub mapped : {A : Type 0} → (A → A) → ℕ → List A → List A
mapped f zero xs = xs
mapped f (suc n) [] = []
mapped f (suc n) (x ∷ xs) = f x ∷ mapped f n xs

pub mapped-all : {A : Type 0} (f : A → A) (n : ℕ) (xs : List A) → length xs ≤ n → mapped f n xs ≡ map f xs
mapped-all f zero (x ∷ xs) le = absurd (omega arith)
mapped-all f (suc n) (x ∷ xs) le = ap (λ ys. f x ∷ ys) (mapped-all f n xs (omega arith))
mapped-all f zero [] le = refl
mapped-all f (suc n) [] le = refl

pub mapped-length : {A : Type 0} (f : A → A) (n : ℕ) (xs : List A) → length (mapped f n xs) ≡ length xs
mapped-length f (suc n) (x ∷ xs) = ap suc (mapped-length f n xs)
mapped-length f n xs = refl

-- f of one more
pub mapped-more : {A : Type 0} (f : A → A) (n : ℕ) (xs : List A) (d : A) → n < length xs → slice_set (mapped f n xs) n (f (get_or (mapped f n xs) n d)) ≡ mapped f (suc n) xs
mapped-more f n [] d lt = absurd (omega arith)
mapped-more f zero (x ∷ xs) d lt = refl
mapped-more f (suc n) (x ∷ xs) d lt = ap (λ ys. f x ∷ ys) (mapped-more f n xs d (omega arith))
