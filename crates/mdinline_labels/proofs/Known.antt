-- Labels in a set.
use Rattle.mdinline_labels.proofs.Prelude.{Decides, pointwise, false≢true, ◌++◌, ◌&&◌, map, ◌≡◌, ℕ, List, [], ◌∷◌, Bool, true, false, refl, sym, ap, ◌∙◌, Ordering, Less, Equal, Greater, is_eq-slice_cmp, insert_key, slice_cmp, nat_cmp-IsAntisymmetric, slice_cmp-IsAntisymmetric, list_any, nat_cmp, is_eq, match_ordering, ◌||◌, bytes_eq}

or-twice : (a b : Bool) → (a || b) ≡ (a || (a || b))
or-twice true b = refl
or-twice false b = refl

or-swap : (a b c : Bool) → (a || (b || c)) ≡ (b || (a || c))
or-swap true true c = refl
or-swap true false c = refl
or-swap false b c = refl

module _ {K : Type 0} (items : K → List ℕ) (n : List ℕ) where
  abbrev p : K → Bool
  p v = bytes_eq n (items v)

  abbrev by_items : K → K → Ordering
  by_items a b = slice_cmp nat_cmp (items a) (items b)

  -- one label more
  pub added : (k : K) (ks : List K) → list_any (λ v. bytes_eq n (items v)) (insert_key (λ a b. slice_cmp nat_cmp (items a) (items b)) ks k) ≡ (bytes_eq n (items k) || list_any (λ v. bytes_eq n (items v)) ks)
  added k [] = refl
  added k (x ∷ xs) = of (added k xs) (by_items k x) refl
    where
      of : list_any p (insert_key by_items xs k) ≡ (p k || list_any p xs) → (o : Ordering) → by_items k x ≡ o → list_any p (match_ordering o (k ∷ x ∷ xs) (x ∷ xs) (x ∷ insert_key by_items xs k)) ≡ (p k || (p x || list_any p xs))
      of more Less e = refl
      of more Equal e =
          let same : items k ≡ items x = slice_cmp-IsAntisymmetric nat_cmp-IsAntisymmetric (items k) (items x) e in
          or-twice (p x) (list_any p xs) ∙ ap (λ b. bytes_eq n b || (p x || list_any p xs)) (sym same)
      of more Greater e = ap (λ t. p x || t) more ∙ or-swap (p x) (p k) (list_any p xs)

  -- what a search by order finds
  pub found : (ks : List K) → list_any (λ v. is_eq (slice_cmp nat_cmp n (items v))) ks ≡ list_any (λ v. bytes_eq n (items v)) ks
  found [] = refl
  found (k ∷ ks) = ap (λ t. t || list_any (λ v. is_eq (slice_cmp nat_cmp n (items v))) ks) (is_eq-slice_cmp n (items k)) ∙ ap (λ t. p k || t) (found ks)

-- one element more, behind the others
pub any-behind : {X : Type 0} (p : X → Bool) (xs : List X) (x : X) → list_any p (xs ++ x ∷ []) ≡ (p x || list_any p xs)
any-behind p [] x = refl
any-behind p (y ∷ ys) x = ap (λ t. p y || t) (any-behind p ys x) ∙ or-swap (p y) (p x) (list_any p ys)

-- a test of what is read of the elements
pub any-map : {X Y : Type 0} (p : Y → Bool) (h : X → Y) (xs : List X) → list_any p (map h xs) ≡ list_any (λ x. p (h x)) xs
any-map p h [] = refl
any-map p h (x ∷ xs) = ap (λ t. p (h x) || t) (any-map p h xs)

-- two lists whose elements read the same, place by place, pass a test alike
module _ {K I : Type 0} (items : K → I) {same : I → I → Bool} (decides : (a b : I) → Decides (same a b) (a ≡ b)) (p : I → Bool) where
  pub any-same : (ks ls : List K) → pointwise (λ k l. same (items k) (items l)) ks ls ≡ true → list_any (λ k. p (items k)) ks ≡ list_any (λ k. p (items k)) ls
  any-same [] [] e = refl
  any-same [] (l ∷ ls) e = absurd (false≢true e)
  any-same (k ∷ ks) [] e = absurd (false≢true e)
  any-same (k ∷ ks) (l ∷ ls) e = of (same (items k) (items l)) refl e (any-same ks ls)
    where
      of : (b : Bool) → same (items k) (items l) ≡ b → (b && pointwise (λ k l. same (items k) (items l)) ks ls) ≡ true → (pointwise (λ k l. same (items k) (items l)) ks ls ≡ true → list_any (λ k. p (items k)) ks ≡ list_any (λ k. p (items k)) ls) → list_any (λ k. p (items k)) (k ∷ ks) ≡ list_any (λ k. p (items k)) (l ∷ ls)
      of true is more rest = ap (λ i. p i || list_any (λ k. p (items k)) ks) ((decides (items k) (items l)).0 is) ∙ ap (λ t. p (items l) || t) (rest more)
      of false is more rest = absurd (false≢true more)
