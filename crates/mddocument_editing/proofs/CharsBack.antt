-- The places between the characters of a text: what is found by one of its two numbers is found by the other.
use Rattle.mddocument_editing.proofs.Prelude.{◌≡◌, ℕ, zero, suc, ◌+◌, ◌-◌, ◌<◌, ◌≤◌, Bool, true, cond, List, [], ◌∷◌, length, sym, ap, ◌∙◌, arith, inl, inr, Some, eq-eqb, ne_eqb, cases_Bool, sum_by-cons, cond_some, same_Some, AllByRecursion, ◌==◌, find, sum, Encoding, Place, behind, first_size, length_in, places, places_from, sizes, sizes_behind, units, map}
use Rattle.mddocument_editing.proofs.CharPlaces.{find-first, first-some, units-some}

-- each character has a byte
some-sizes : (few : ℕ) (bs : List ℕ) → AllByRecursion (λ n. 1 ≤ n) (sizes_behind few bs)
some-sizes few [] = tt
some-sizes zero (b ∷ bs) = ((first-some (b ∷ bs) (omega arith)).0, some-sizes (first_size (b ∷ bs) - 1) bs)
some-sizes (suc few) (b ∷ bs) = some-sizes few bs

-- the characters are all bytes
sum-behind : (few : ℕ) (bs : List ℕ) → sum (sizes_behind few bs) ≡ length bs - few
sum-behind few [] = omega arith
sum-behind zero (b ∷ bs) =
    let n = first_size (b ∷ bs) in
    let some = first-some (b ∷ bs) (omega arith) in
    omega (arith, sum_by-cons (λ x. x) n (sizes_behind (n - 1) bs), sum-behind (n - 1) bs, some.0, some.1)
sum-behind (suc few) (b ∷ bs) = omega (arith, sum-behind few bs)

pub sum-sizes : (text : List ℕ) → sum (sizes text) ≡ length text
sum-sizes text = omega (arith, sum-behind 0 text)

module _ (encoding : Encoding) where
  -- no place is behind the end
  found-within : (f : Place → Bool) (p q : Place) (ns : List ℕ) → find f (places_from encoding p ns) ≡ Some q
      → (q.index ≤ p.index + sum ns) × (q.character ≤ p.character + sum (map (units encoding) ns))
  found-within f p q [] h =
      let same : p ≡ q = (cond_some (f p) p q h).1 in
      (omega (arith, ap (λ (r : Place). r.index) same), omega (arith, ap (λ (r : Place). r.character) same))
  found-within f p q (n ∷ ns) h =
      let one = sum_by-cons (λ x. x) n ns in
      let other = sum_by-cons (λ x. x) (units encoding n) (map (units encoding) ns) in
      elim (cases_Bool (f p)) [
        | inl here ↦
            let same : p ≡ q = same_Some p q (sym (find-first encoding f p (n ∷ ns) here) ∙ h) in
            (omega (arith, ap (λ (r : Place). r.index) same), omega (arith, ap (λ (r : Place). r.character) same))
        | inr past ↦
            let next = found-within f (behind encoding p n) q ns (sym (ap (λ b. cond b (Some p) (find f (places_from encoding (behind encoding p n) ns))) past) ∙ h) in
            (omega (arith, next.0, one), omega (arith, next.1, other))
      ]

  pub in-text : (f : Place → Bool) (text : List ℕ) (q : Place) → find f (places encoding text) ≡ Some q → (q.index ≤ length text) × (q.character ≤ length_in encoding text)
  in-text f text q h =
      let both = found-within f (record { index = 0; character = 0 }) q (sizes text) h in
      (omega (arith, both.0, sum-sizes text), omega (arith, both.1))

  module _ (key : Place → ℕ) (grows : (p : Place) (n : ℕ) → 1 ≤ n → key p < key (behind encoding p n)) where
    -- no place is in front of the first
    found-above : (f : Place → Bool) (p q : Place) (ns : List ℕ) → AllByRecursion (λ n. 1 ≤ n) ns → find f (places_from encoding p ns) ≡ Some q → key p ≤ key q
    found-above f p q [] some h = let same : p ≡ q = (cond_some (f p) p q h).1 in omega (arith, ap key same)
    found-above f p q (n ∷ ns) some h = elim (cases_Bool (f p)) [
      | inl here ↦ let same : p ≡ q = same_Some p q (sym (find-first encoding f p (n ∷ ns) here) ∙ h) in omega (arith, ap key same)
      | inr past ↦
          let next = found-above f (behind encoding p n) q ns some.1 (sym (ap (λ b. cond b (Some p) (find f (places_from encoding (behind encoding p n) ns))) past) ∙ h) in
          omega (arith, next, grows p n some.0)
    ]

    -- a place that is found is the first one with its number
    found-by : (f : Place → Bool) (p q : Place) (ns : List ℕ) → AllByRecursion (λ n. 1 ≤ n) ns → find f (places_from encoding p ns) ≡ Some q
        → find (λ r. key r == key q) (places_from encoding p ns) ≡ Some q
    found-by f p q [] some h =
        let same : p ≡ q = (cond_some (f p) p q h).1 in
        find-first encoding (λ r. key r == key q) p [] (eq-eqb (key p) (key q) (ap key same)) ∙ ap Some same
    found-by f p q (n ∷ ns) some h = elim (cases_Bool (f p)) [
      | inl here ↦
          let same : p ≡ q = same_Some p q (sym (find-first encoding f p (n ∷ ns) here) ∙ h) in
          find-first encoding (λ r. key r == key q) p (n ∷ ns) (eq-eqb (key p) (key q) (ap key same)) ∙ ap Some same
      | inr past ↦
          let next = behind encoding p n in
          let rest = sym (ap (λ b. cond b (Some p) (find f (places_from encoding next ns))) past) ∙ h in
          let above = found-above f next q ns some.1 rest in
          ap (λ b. cond b (Some p) (find (λ r. key r == key q) (places_from encoding next ns))) (ne_eqb (key p) (key q) (omega (arith, above, grows p n some.0)))
          ∙ found-by f next q ns some.1 rest
    ]

  index-grows : (p : Place) (n : ℕ) → 1 ≤ n → p.index < (behind encoding p n).index
  index-grows p n some = omega arith

  character-grows : (p : Place) (n : ℕ) → 1 ≤ n → p.character < (behind encoding p n).character
  character-grows p n some = omega (arith, (units-some encoding n some).0)

  pub by-index : (f : Place → Bool) (text : List ℕ) (q : Place) → find f (places encoding text) ≡ Some q → find (λ r. r.index == q.index) (places encoding text) ≡ Some q
  by-index f text q h = found-by (λ r. r.index) index-grows f (record { index = 0; character = 0 }) q (sizes text) (some-sizes 0 text) h

  pub by-character : (f : Place → Bool) (text : List ℕ) (q : Place) → find f (places encoding text) ≡ Some q → find (λ r. r.character == q.character) (places encoding text) ≡ Some q
  by-character f text q h = found-by (λ r. r.character) character-grows f (record { index = 0; character = 0 }) q (sizes text) (some-sizes 0 text) h

-- what is found passes
pub find-passes : {X : Type 0} (f : X → Bool) (xs : List X) (x : X) → find f xs ≡ Some x → f x ≡ true
find-passes f [] x h = absurd (cc)
find-passes f (y ∷ ys) x h = grind (arith, find-passes f ys x)
