-- What holds of each element of a part of a list, and so of a longer front.
use Rattle.std.proofs.Common.{◌≡◌, ◌∙◌, ◌+◌, ◌-◌, ◌<◌, ◌≤◌, ℕ, List, ap, arith, drop, get_or, get_or-take, inl, inr, length, length-drop, length-take, subst, take}
use Rattle.std.proofs.lemmas.List.{get_or-drop, length-take-le}
use Rattle.std.proofs.lemmas.Bool.{cases_lt}

module _ {X : Type 0} (P : X → Type 0) (xs : List X) (d : X) where
  -- of the elements from one index up to another
  pub part-all : (i j : ℕ) → i ≤ j → j ≤ length xs → ((k : ℕ) → k < length (take (j - i) (drop i xs)) → P (get_or (take (j - i) (drop i xs)) k d))
      → (k : ℕ) → i ≤ k → k < j → P (get_or xs k d)
  part-all i j upto inside all k low high =
      let rest = drop i xs in
      let behind = length-drop i xs in
      let long : length (take (j - i) rest) ≡ j - i = length-take-le (j - i) rest (omega (arith, behind, upto, inside)) in
      let n : k - i < j - i = omega (arith, low, high) in
      let sum : i + (k - i) ≡ k = omega (arith, low) in
      subst P (get_or-take (j - i) rest (k - i) d n ∙ get_or-drop i xs (k - i) d ∙ ap (λ m. get_or xs m d) sum) (all (k - i) (omega (arith, n, long)))

  -- of a front, and of the elements behind it up to an index
  pub front-longer : (i j : ℕ) → ((k : ℕ) → k < i → P (get_or xs k d)) → ((k : ℕ) → i ≤ k → k < j → P (get_or xs k d)) → (k : ℕ) → k < j → P (get_or xs k d)
  front-longer i j front more k less = elim (cases_lt k i) [
    | inl h ↦ front k h
    | inr h ↦ more k h less
  ]

  -- of the first elements
  pub first-all : (j : ℕ) → j ≤ length xs → ((k : ℕ) → k < length (take j xs) → P (get_or (take j xs) k d)) → (k : ℕ) → k < j → P (get_or xs k d)
  first-all j inside all k less =
      let long : length (take j xs) ≡ j = length-take-le j xs inside in
      subst P (get_or-take j xs k d less) (all k (omega (arith, long, less)))

  -- those of a part are elements of the list
  pub part-at : (i j n : ℕ) → n ≤ length (take (j - i) (drop i xs)) → ((k : ℕ) → k < n → P (get_or (take (j - i) (drop i xs)) k d)) → (k : ℕ) → k < n → P (get_or xs (i + k) d)
  part-at i j n inside all k less =
      let most = length-take (j - i) (drop i xs) in
      subst P (get_or-take (j - i) (drop i xs) k d (omega (arith, most, inside, less)) ∙ get_or-drop i xs k d) (all k less)
