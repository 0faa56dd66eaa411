-- What a map finds that is kept in the order of bytes, of values of any type.
use Rattle.std.proofs.Common.{◌≡◌, ℕ, Bool, true, false, cond, List, [], ◌∷◌, Option, Some, Ordering, Less, Equal, Greater, refl, sym, ap, ◌∙◌}
use Rattle.std.proofs.lemmas.Bool.{false≢true}
use Rattle.std.proofs.lemmas.Map.Text.{is_eq-slice_cmp}
use Rattle.std.proofs.lemmas.Slice.Eq.{bytes_eq-Decides}
use Rattle.std.specs.BTreeMap.{insert_entry}
use Rattle.std.specs.Cmp.Lexicographic.{slice_cmp}
use Rattle.std.specs.FinMap.{nat_cmp-IsAntisymmetric, slice_cmp-IsAntisymmetric}
use Rattle.std.specs.Map.{lookup}
use Rattle.std.specs.Ordering.{is_eq, match_ordering, nat_cmp}
use Rattle.std.specs.Prelude.{bytes_eq}

module _ {K : Type 0} (items : K → List ℕ) (n : List ℕ) where
  abbrev is_it : K → Bool
  is_it k = bytes_eq n (items k)

  abbrev by_items : K → K → Ordering
  by_items a b = slice_cmp nat_cmp (items a) (items b)

  -- what a search by order finds
  pub found : {X : Type 0} (es : List (K × X)) → lookup (λ k. is_eq (slice_cmp nat_cmp n (items k))) es ≡ lookup (λ k. bytes_eq n (items k)) es
  found [] = refl
  found (e ∷ es) = ap (λ b. cond b (Some e.1) (lookup (λ k. is_eq (slice_cmp nat_cmp n (items k))) es)) (is_eq-slice_cmp n (items e.0)) ∙ ap (λ o. cond (is_it e.0) (Some e.1) o) (found es)

  twice : {X : Type 0} (b : Bool) (x y z : Option X) → cond b x z ≡ cond b x (cond b y z)
  twice true x y z = refl
  twice false x y z = refl

  -- two keys that are not the same are not both the one that is looked for
  swapped : {X : Type 0} (k l : K) (x y z : Option X) → by_items k l ≡ Greater → cond (is_it l) y (cond (is_it k) x z) ≡ cond (is_it k) x (cond (is_it l) y z)
  swapped k l x y z h = by (is_it k) (is_it l) refl refl
    where
      by : (a b : Bool) → is_it k ≡ a → is_it l ≡ b → cond b y (cond a x z) ≡ cond a x (cond b y z)
      by true true p q =
          let k-is : n ≡ items k = (bytes_eq-Decides n (items k)).0 p in
          let same : bytes_eq (items k) (items l) ≡ true = ap (λ bs. bytes_eq bs (items l)) (sym k-is) ∙ q in
          absurd (false≢true (ap is_eq (sym h) ∙ is_eq-slice_cmp (items k) (items l) ∙ same))
      by true false p q = refl
      by false b p q = refl

  -- one entry more
  pub added : {X : Type 0} (k : K) (v : X) (es : List (K × X)) → lookup (λ l. bytes_eq n (items l)) (insert_entry (λ a b. slice_cmp nat_cmp (items a) (items b)) es k v) ≡ cond (bytes_eq n (items k)) (Some v) (lookup (λ l. bytes_eq n (items l)) es)
  added k v [] = refl
  added k v (e ∷ es) = of (added k v es) (by_items k e.0) refl
    where
      of : lookup is_it (insert_entry by_items es k v) ≡ cond (is_it k) (Some v) (lookup is_it es) → (o : Ordering) → by_items k e.0 ≡ o
          → lookup is_it (match_ordering o ((k, v) ∷ e ∷ es) ((e.0, v) ∷ es) (e ∷ insert_entry by_items es k v)) ≡ cond (is_it k) (Some v) (lookup is_it (e ∷ es))
      of more Less h = refl
      of more Equal h =
          let same : items k ≡ items e.0 = slice_cmp-IsAntisymmetric nat_cmp-IsAntisymmetric (items k) (items e.0) h in
          ap (λ bs. cond (bytes_eq n bs) (Some v) (lookup is_it es)) (sym same)
          ∙ twice (is_it k) (Some v) (Some e.1) (lookup is_it es)
          ∙ ap (λ bs. cond (is_it k) (Some v) (cond (bytes_eq n bs) (Some e.1) (lookup is_it es))) same
      of more Greater h = ap (λ o. cond (is_it e.0) (Some e.1) o) more ∙ swapped k e.0 (Some v) (Some e.1) (lookup is_it es) h
