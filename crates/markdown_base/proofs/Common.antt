-- General lemmas: on truth values and on lists of any type.
use Rattle.markdown_base.proofs.Prelude.{◌≡◌, ℕ, zero, suc, ◌+◌, ◌<◌, ◌∙◌, Bool, true, false, cond, List, [], ◌∷◌, ◌++◌, length, drop, take, Some, refl, sym, ap, subst, arith, ◌&&◌, ◌||◌, not, map, filter, slice_get, AllByRecursion, drop-drop}
use Rattle.std.proofs.Common.{reverse}
use Rattle.std.proofs.lemmas.List.{reverse-append}

-- ---- truth values

-- `not a || b` is an implication
pub or-leads : (a b : Bool) → (not a || b) ≡ true → a ≡ true → b ≡ true
or-leads a b h e = grind arith

-- the right part of `a && b`
pub and-right : (a b : Bool) → (a && b) ≡ true → b ≡ true
and-right a b h = grind arith

-- nothing makes `a && false` true
pub and-false-never : (a : Bool) → (a && false) ≡ true → ⊥
and-false-never a h = grind arith

-- an implication, read backwards
pub leads-back : (a b : Bool) → (a ≡ true → b ≡ true) → b ≡ false → a ≡ false
leads-back a b h e = grind (arith, h)

-- ---- elements of lists

-- an element of the front of two lists
pub get-front : {A : Type 0} (xs ys : List A) (i : ℕ) → i < length xs → slice_get (xs ++ ys) i ≡ slice_get xs i
get-front [] ys i h = absurd (omega arith)
get-front (x ∷ xs) ys zero h = refl
get-front (x ∷ xs) ys (suc i) h = get-front xs ys i (omega arith)

-- what is left from an index on begins with the element there
pub drop-at : {A : Type 0} (xs : List A) (i : ℕ) (x : A) → slice_get xs i ≡ Some x → drop i xs ≡ x ∷ drop (suc i) xs
drop-at [] i x h = absurd (cc)
drop-at (y ∷ ys) zero x h = let same : y ≡ x = cc in ap (λ z. z ∷ ys) same
drop-at (y ∷ ys) (suc i) x h = drop-at ys i x h

-- one element less is left from the next index on
pub drop-next : {A : Type 0} (xs : List A) (i : ℕ) (x : A) (rest : List A) → drop i xs ≡ x ∷ rest → drop (i + 1) xs ≡ rest
drop-next xs i x rest h = sym (drop-drop 1 i xs) ∙ ap (drop 1) h

-- a list is empty if its image is
pub none-mapped : {A B : Type 0} (f : A → B) (xs : List A) → map f xs ≡ [] → xs ≡ []
none-mapped f [] h = refl
none-mapped f (x ∷ xs) h = absurd (cc)

-- ---- what holds of each element

-- what follows from what holds of each element holds of each
pub every-map : {A : Type 0} (P Q : A → Type 0) → ((x : A) → P x → Q x) → (xs : List A) → AllByRecursion P xs → AllByRecursion Q xs
every-map P Q f [] h = tt
every-map P Q f (x ∷ xs) h = (f x h.0, every-map P Q f xs h.1)

-- what holds of each element of two lists holds of each of both together
pub every-append : {A : Type 0} (P : A → Type 0) (xs ys : List A) → AllByRecursion P xs → AllByRecursion P ys → AllByRecursion P (xs ++ ys)
every-append P [] ys h k = k
every-append P (x ∷ xs) ys h k = (h.0, every-append P xs ys h.1 k)

-- what holds of each element of a list holds of each of its front, of what is left, and of the list from its end
pub every-take : {A : Type 0} (P : A → Type 0) (n : ℕ) (xs : List A) → AllByRecursion P xs → AllByRecursion P (take n xs)
every-take P zero xs h = tt
every-take P (suc n) [] h = tt
every-take P (suc n) (x ∷ xs) h = (h.0, every-take P n xs h.1)

pub every-drop : {A : Type 0} (P : A → Type 0) (n : ℕ) (xs : List A) → AllByRecursion P xs → AllByRecursion P (drop n xs)
every-drop P zero xs h = h
every-drop P (suc n) [] h = tt
every-drop P (suc n) (x ∷ xs) h = every-drop P n xs h.1

pub every-reverse : {A : Type 0} (P : A → Type 0) (xs : List A) → AllByRecursion P xs → AllByRecursion P (reverse xs)
every-reverse P [] h = tt
every-reverse P (x ∷ xs) h = subst (AllByRecursion P) (sym (reverse-append (x ∷ []) xs)) (every-append P (reverse xs) (x ∷ []) (every-reverse P xs h.1) (h.0, tt))

-- what holds of each element holds of those that pass a test
pub every-filter : {A : Type 0} (P : A → Type 0) (f : A → Bool) (xs : List A) → AllByRecursion P xs → AllByRecursion P (filter f xs)
every-filter P f [] h = tt
every-filter P f (x ∷ xs) h = elim (f x) as (λ b. AllByRecursion P (cond b (x ∷ filter f xs) (filter f xs))) [ true ↦ (h.0, every-filter P f xs h.1) | false ↦ every-filter P f xs h.1 ]

-- what holds of each element holds of the one at an index
pub every-get : {A : Type 0} (P : A → Type 0) (xs : List A) (i : ℕ) (x : A) → AllByRecursion P xs → slice_get xs i ≡ Some x → P x
every-get P [] i x h e = absurd (cc)
every-get P (y ∷ ys) zero x h e = let same : y ≡ x = cc in subst P same h.0
every-get P (y ∷ ys) (suc i) x h e = every-get P ys i x h.1 e

-- ---- what a test leaves of a list

-- none, if it holds of none
pub filter-none : {A : Type 0} (f : A → Bool) (xs : List A) → AllByRecursion (λ x. f x ≡ false) xs → filter f xs ≡ []
filter-none f [] h = refl
filter-none f (x ∷ xs) h = let e = h.0 in rw e (filter-none f xs h.1)
