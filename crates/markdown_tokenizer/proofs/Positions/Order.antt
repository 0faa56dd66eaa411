-- The order of places, and lists of seats.
use Rattle.markdown_tokenizer.proofs.Prelude.{AllByRecursion, ◌≡◌, ℕ, suc, ◌≤◌, ◌<◌, ◌==◌, List, [], ◌∷◌, ◌++◌, Bool, true, false, cond, refl, ap, arith, filter, nat_lt, ◌&&◌, ◌||◌, nat_tests}
pub use Rattle.std.proofs.lemmas.Bool.{eqb-false as is-not, ne_eqb as not-number}

pub later-later : (i j m n u v : ℕ) → (nat_lt i m || ((i == m) && nat_lt j n)) ≡ false → (nat_lt m u || ((m == u) && nat_lt n v)) ≡ false → (nat_lt i u || ((i == u) && nat_lt j v)) ≡ false
later-later i j m n u v h k = grind (arith, nat_tests)

pub after-before : (i j m n : ℕ) → (nat_lt i m || ((i == m) && nat_lt j n)) ≡ true → (nat_lt m i || ((m == i) && nat_lt n j)) ≡ false
after-before i j m n h = grind (arith, nat_tests)

pub before-self : (i j : ℕ) → (nat_lt i i || ((i == i) && nat_lt j j)) ≡ false
before-self i j = grind (arith, nat_tests)

pub below-before : (i j m n : ℕ) → i < m → (nat_lt i m || ((i == m) && nat_lt j n)) ≡ true
below-before i j m n h = grind (arith, nat_tests)

pub more-before : (i j : ℕ) → (nat_lt i i || ((i == i) && nat_lt j (suc j))) ≡ true
more-before i j = grind (arith, nat_tests)

pub not-before : (i j m n : ℕ) → m ≤ i → n ≡ 0 → (nat_lt i m || ((i == m) && nat_lt j n)) ≡ false
not-before i j m n h e = grind (arith, nat_tests)

-- one place is before a second, and the second not after a third
pub before-upto : (i j m n u v : ℕ) → (nat_lt i m || ((i == m) && nat_lt j n)) ≡ true → (nat_lt u m || ((u == m) && nat_lt v n)) ≡ false → (nat_lt i u || ((i == u) && nat_lt j v)) ≡ true
before-upto i j m n u v h k = grind (arith, nat_tests)

-- one place is not after a second, and the second before a third
pub upto-before : (i j m n u v : ℕ) → (nat_lt m i || ((m == i) && nat_lt n j)) ≡ false → (nat_lt m u || ((m == u) && nat_lt n v)) ≡ true → (nat_lt i u || ((i == u) && nat_lt j v)) ≡ true
upto-before i j m n u v h k = grind (arith, nat_tests)

module _ {A : Type 0} (P : A → Type 0) where
  pub every-cond : (b : Bool) (xs ys : List A) → AllByRecursion P xs → AllByRecursion P ys → AllByRecursion P (cond b xs ys)
  every-cond true xs ys h k = h
  every-cond false xs ys h k = k

  pub every-front : (xs ys : List A) → AllByRecursion P (xs ++ ys) → AllByRecursion P xs
  every-front [] ys h = tt
  every-front (x ∷ xs) ys h = (h.0, every-front xs ys h.1)

  pub every-back : (xs ys : List A) → AllByRecursion P (xs ++ ys) → AllByRecursion P ys
  every-back [] ys h = h
  every-back (x ∷ xs) ys h = every-back xs ys h.1

  pub every-all : ((x : A) → P x) → (xs : List A) → AllByRecursion P xs
  every-all f [] = tt
  every-all f (x ∷ xs) = (f x, every-all f xs)

pub every-both : {A : Type 0} (P Q R : A → Type 0) → ((x : A) → P x → Q x → R x) → (xs : List A) → AllByRecursion P xs → AllByRecursion Q xs → AllByRecursion R xs
every-both P Q R f [] h k = tt
every-both P Q R f (x ∷ xs) h k = (f x h.0 k.0, every-both P Q R f xs h.1 k.1)

pub filter-every : {A : Type 0} (f : A → Bool) (xs : List A) → AllByRecursion (λ x. f x ≡ true) xs → filter f xs ≡ xs
filter-every f [] h = refl
filter-every f (x ∷ xs) h = let e = h.0 in rw e (ap (λ (ys : List _). x ∷ ys) (filter-every f xs h.1))

pub filter-same : {A : Type 0} (f g : A → Bool) (xs : List A) → AllByRecursion (λ x. f x ≡ g x) xs → filter f xs ≡ filter g xs
filter-same f g [] h = refl
filter-same f g (x ∷ xs) h = let e = h.0 in rw e (ap (λ (ys : List _). cond (g x) (x ∷ ys) ys) (filter-same f g xs h.1))

-- what a test that passes adds to what holds of each element holds of each that a filter keeps
pub every-kept : {A : Type 0} (P Q : A → Type 0) (f : A → Bool) → ((x : A) → P x → f x ≡ true → Q x) → (xs : List A) → AllByRecursion P xs → AllByRecursion Q (filter f xs)
every-kept P Q f h [] k = tt
every-kept P Q f h (x ∷ xs) k = elim (f x) as (λ b. (f x ≡ b) → AllByRecursion Q (cond b (x ∷ filter f xs) (filter f xs))) [
  | true ↦ λ e. (h x k.0 e, every-kept P Q f h xs k.1)
  | false ↦ λ e. every-kept P Q f h xs k.1
] refl
