-- What is remembered of backtick strings, as the code looks it up and notes it.
use Rattle.mdinline_constructs.proofs.Prelude.{[], List, Option, None, Some, ap, arith, false, length, refl, replicate, slice_get, slice_index_or, slice_set, suc, sym, zero, ℕ, ◌++◌, ◌+◌, ◌-◌, ◌<◌, ◌∙◌, ◌∷◌, ◌≡◌, ◌≤◌, last_or, ContainerState, is_ahead, is_seen_from, later_of, seen_at, unseen, with_run}

-- an entry that is there, and one that is not
pub ahead-is : (runs : List ContainerState) (k index : ℕ) (d : ContainerState) → k < length runs → is_ahead runs k index ≡ is_seen_from (slice_index_or runs k d) index
ahead-is [] k index d h = absurd (omega (arith, h))
ahead-is (last ∷ runs) zero index d h = refl
ahead-is (last ∷ runs) (suc k) index d h = ahead-is runs k index d (omega (arith, h))

pub ahead-none : (runs : List ContainerState) (k index : ℕ) → length runs ≤ k → is_ahead runs k index ≡ false
ahead-none [] k index h = refl
ahead-none (last ∷ runs) zero index h = absurd (omega (arith, h))
ahead-none (last ∷ runs) (suc k) index h = ahead-none runs k index (omega (arith, h))

-- a length of which there is no entry yet
grown : (n index : ℕ) → with_run [] n index ≡ replicate n unseen ++ seen_at index ∷ []
grown zero index = refl
grown (suc n) index = ap (λ l. unseen ∷ l) (grown n index)

pub run-added : (runs : List ContainerState) (k n index : ℕ) → k ≡ length runs + n → with_run runs k index ≡ (runs ++ replicate n unseen) ++ seen_at index ∷ []
run-added [] k n index e = let same : k ≡ n = omega (arith, e) in ap (λ k. with_run [] k index) same ∙ grown n index
run-added (last ∷ runs) zero n index e = absurd (omega (arith, e))
run-added (last ∷ runs) (suc k) n index e = ap (λ l. last ∷ l) (run-added runs k n index (omega (arith, e)))

-- and one of which there is an entry
pub run-set : (runs : List ContainerState) (k index : ℕ) (d : ContainerState) → k < length runs → with_run runs k index ≡ slice_set runs k (later_of (slice_index_or runs k d) index)
run-set [] k index d h = absurd (omega (arith, h))
run-set (last ∷ runs) zero index d h = refl
run-set (last ∷ runs) (suc k) index d h = ap (λ l. last ∷ l) (run-set runs k index d (omega (arith, h)))

-- the last of a list, by its place
last-is : {A : Type 0} (o : Option A) (x : A) (xs : List A) → last_or o (x ∷ xs) ≡ slice_get (x ∷ xs) (length xs)
last-is o x [] = refl
last-is o x (y ∷ ys) = last-is (Some x) y ys

pub last-get : {A : Type 0} (xs : List A) → last_or None xs ≡ slice_get xs (length xs - 1)
last-get [] = refl
last-get (x ∷ xs) = let one : length (x ∷ xs) - 1 ≡ length xs = omega arith in last-is None x xs ∙ sym (ap (slice_get (x ∷ xs)) one)
