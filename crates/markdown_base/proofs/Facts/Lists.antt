-- Facts of lists of any type: their elements, and what is left of them.
use Rattle.markdown_base.proofs.Prelude.{◌≡◌, ℕ, zero, suc, ◌+◌, ◌<◌, ◌≤◌, ◌∙◌, Bool, true, false, cond, List, [], ◌∷◌, ◌++◌, length, take, drop, Option, Some, None, refl, ap, arith, not, map, filter, slice_get, AllByRecursion, length-drop}
use Rattle.std.proofs.Common.{le_trans}
use Rattle.std.proofs.lemmas.Option.{none-some}

-- ---- elements

-- an element of what is left
pub get-dropped : {A : Type 0} (k : ℕ) (xs : List A) (i : ℕ) → slice_get (drop k xs) i ≡ slice_get xs (k + i)
get-dropped zero xs i = let z : i ≡ 0 + i = omega arith in ap (slice_get xs) z
get-dropped (suc k) [] i = refl
get-dropped (suc k) (x ∷ xs) i = let z : suc (k + i) ≡ suc k + i = omega arith in get-dropped k xs i ∙ ap (slice_get (x ∷ xs)) z

-- an element of a front
pub get-taken : {A : Type 0} (k : ℕ) (xs : List A) (i : ℕ) (x : A) → slice_get (take k xs) i ≡ Some x → (i < k) × (slice_get xs i ≡ Some x)
get-taken zero xs i x e = absurd (none-some x e)
get-taken (suc k) [] i x e = absurd (none-some x e)
get-taken (suc k) (y ∷ xs) zero x e = (omega arith, e)
get-taken (suc k) (y ∷ xs) (suc i) x e = let r = get-taken k xs i x e in (omega arith, r.1)

-- the front of a list has its elements
pub get-take : {A : Type 0} (n : ℕ) (xs : List A) (i : ℕ) → i < n → slice_get (take n xs) i ≡ slice_get xs i
get-take zero xs i h = absurd (omega (arith, h))
get-take (suc n) [] i h = refl
get-take (suc n) (x ∷ xs) zero h = refl
get-take (suc n) (x ∷ xs) (suc i) h = get-take n xs i (omega (arith, h))

-- each index inside has an element
pub some-get : {A : Type 0} (xs : List A) (i : ℕ) → i < length xs → (x : A) × (slice_get xs i ≡ Some x)
some-get [] i l = absurd (omega arith)
some-get (x ∷ xs) zero l = (x, refl)
some-get (x ∷ xs) (suc i) l = some-get xs i (omega arith)

-- what holds of each element that is there holds of all
pub all-there : {A : Type 0} (P : A → Type 0) (xs : List A) → ((i : ℕ) (x : A) → slice_get xs i ≡ Some x → P x) → AllByRecursion P xs
all-there P [] h = tt
all-there P (x ∷ xs) h = (h 0 x refl, all-there P xs (λ i y e. h (suc i) y e))

-- ---- what a test leaves

-- none is left: each passes
pub none-left : {A B : Type 0} (test : A → Bool) (f : A → B) (x : A) (xs : List A) → map f (filter (λ y. not (test y)) (x ∷ xs)) ≡ [] → (test x ≡ true) × (map f (filter (λ y. not (test y)) xs) ≡ [])
none-left test f x xs h = elim (test x) as (λ t. map f (cond (not t) (x ∷ filter (λ y. not (test y)) xs) (filter (λ y. not (test y)) xs)) ≡ [] → (t ≡ true) × (map f (filter (λ y. not (test y)) xs) ≡ [])) [
  | true ↦ λ h. (refl, h)
  | false ↦ λ h. absurd (let e : f x ∷ map f (filter (λ y. not (test y)) xs) ≡ [] = h in cc)
] h

-- ---- lengths

-- what is left is no longer
pub drop-fits : {A : Type 0} (n : ℕ) (xs : List A) → length (drop n xs) ≤ length xs
drop-fits n xs = let e = length-drop n xs in omega (arith, e)

-- what is left from a place on begins in the list
pub begins-inside : {A : Type 0} (n : ℕ) (xs : List A) (y : A) (ys : List A) → drop n xs ≡ y ∷ ys → n < length xs
begins-inside n xs y ys e = omega (arith, length-drop n xs, ap length e)

-- a list that begins with something has something in it
pub some-front : {A : Type 0} (xs ys : List A) → 0 < length xs → 0 < length (xs ++ ys)
some-front [] ys some = absurd (omega (arith, some))
some-front (x ∷ xs) ys some = omega arith

-- the longer of two is no longer than both may be
pub cond-fits : {A : Type 0} (t : Bool) (xs ys : List A) (n : ℕ) → length xs ≤ n → length ys ≤ n → length (cond t xs ys) ≤ n
cond-fits true xs ys n h k = h
cond-fits false xs ys n h k = k

-- a list, if there is one, has at most this many elements
abbrev pub Fits : {A : Type 0} → ℕ → Option (List A) → Type 0
Fits n None = Unit {0}
Fits n (Some xs) = length xs ≤ n

pub fits-more : {A : Type 0} (o : Option (List A)) (n m : ℕ) → n ≤ m → Fits n o → Fits m o
fits-more None n m le fits = tt
fits-more (Some xs) n m le fits = le_trans fits le

pub either-fits : {A : Type 0} (t : Bool) (n : ℕ) (o p : Option (List A)) → Fits n o → Fits n p → Fits n (cond t o p)
either-fits true n o p h k = h
either-fits false n o p h k = k
