-- Lists of numbers that rise: two with the same numbers are the same.
use Rattle.std.proofs.Common.{◌≡◌, ◌⊎◌, ℕ, zero, suc, ◌+◌, ◌<◌, ◌≤◌, inl, inr, Bool, true, false, List, [], ◌∷◌, map, refl, sym, ◌∙◌, ap, subst, arith}
use Rattle.std.proofs.lemmas.Bool.{cases_order}
use Rattle.std.proofs.lemmas.List.Elements.{filter_passes, recursion_from_All}
use Rattle.std.specs.List.{AllByRecursion, range_with_len}
use Rattle.std.specs.Prelude.{◌&&◌, filter}
use Rattle.markdown_children.proofs.ChainOrder.Following.{by_test, filter-no, filter-yes}
use Rattle.markdown_children.proofs.Parts.Edits.{IsRising}

-- a number is in a list
abbrev pub In : ℕ → List ℕ → Type 0
In n [] = ⊥
In n (m ∷ ms) = (n ≡ m) ⊎ In n ms

pub in-all : (P : ℕ → Type 0) (ms : List ℕ) (n : ℕ) → AllByRecursion P ms → In n ms → P n
in-all P [] n h i = absurd i
in-all P (m ∷ ms) n h i = elim i [ inl e ↦ subst P (sym e) h.0 | inr k ↦ in-all P ms n h.1 k ]

pub all-in : (P : ℕ → Type 0) (ms : List ℕ) → ((n : ℕ) → In n ms → P n) → AllByRecursion P ms
all-in P [] h = tt
all-in P (m ∷ ms) h = (h m (inl refl), all-in P ms (λ n i. h n (inr i)))

pub in-map : (f : ℕ → ℕ) (ms : List ℕ) (n : ℕ) → In n ms → In (f n) (map f ms)
in-map f [] n i = i
in-map f (m ∷ ms) n i = elim i [ inl e ↦ inl (ap f e) | inr k ↦ inr (in-map f ms n k) ]

pub in-map-back : (f : ℕ → ℕ) (ms : List ℕ) (q : ℕ) → In q (map f ms) → (n : ℕ) × In n ms × (q ≡ f n)
in-map-back f [] q i = absurd i
in-map-back f (m ∷ ms) q i = elim i [ inl e ↦ (m, inl refl, e) | inr k ↦ (let r = in-map-back f ms q k in (r.0, inr r.1, r.2)) ]

-- what passes a test
pub in-filter : (test : ℕ → Bool) (f i m : ℕ) → i ≤ m → m < i + f → test m ≡ true → In m (filter test (range_with_len i f))
in-filter test zero i m l u t = absurd (omega (arith, l, u))
in-filter test (suc f) i m l u t = elim (cases_order i m) [
  | inl same ↦ subst (In m) (sym (filter-yes test i (range_with_len (i + 1) f) (ap test same ∙ t))) (inl (sym same))
  | inr other ↦
      (let rest : In m (filter test (range_with_len (i + 1) f)) = in-filter test f (i + 1) m (elim other [ inl b ↦ omega (arith, b) | inr b ↦ absurd (omega (arith, b, l)) ]) (omega (arith, u)) t in
      by_test (test i)
      (λ h. subst (In m) (sym (filter-yes test i (range_with_len (i + 1) f) h)) (inr rest))
      (λ h. subst (In m) (sym (filter-no test i (range_with_len (i + 1) f) h)) rest))
]

pub filter-in : (test : ℕ → Bool) (xs : List ℕ) (m : ℕ) → In m (filter test xs) → test m ≡ true
filter-in test xs m i = in-all (λ k. test k ≡ true) (filter test xs) m (recursion_from_All (λ k. test k ≡ true) (filter test xs) (filter_passes test xs)) i

-- two tests, one after another
pub filter-both : (p q r : ℕ → Bool) → ((x : ℕ) → r x ≡ (p x && q x)) → (xs : List ℕ) → filter q (filter p xs) ≡ filter r xs
filter-both p q r h [] = refl
filter-both p q r h (x ∷ xs) =
    let more = filter-both p q r h xs in
    by_test (p x)
    (λ a. by_test (q x)
    (λ b. let c : r x ≡ true = h x ∙ (λ j. a j && b j) in ap (filter q) (filter-yes p x xs a) ∙ filter-yes q x (filter p xs) b ∙ ap (λ l. x ∷ l) more ∙ sym (filter-yes r x xs c))
    (λ b. let c : r x ≡ false = h x ∙ (λ j. a j && b j) in ap (filter q) (filter-yes p x xs a) ∙ filter-no q x (filter p xs) b ∙ more ∙ sym (filter-no r x xs c)))
    (λ a. let c : r x ≡ false = h x ∙ (λ j. a j && q x) in ap (filter q) (filter-no p x xs a) ∙ more ∙ sym (filter-no r x xs c))

pub filter-same : (p q : ℕ → Bool) → ((x : ℕ) → p x ≡ q x) → (xs : List ℕ) → filter p xs ≡ filter q xs
filter-same p q h [] = refl
filter-same p q h (x ∷ xs) = by_test (q x)
    (λ b. filter-yes p x xs (h x ∙ b) ∙ ap (λ l. x ∷ l) (filter-same p q h xs) ∙ sym (filter-yes q x xs b))
    (λ b. filter-no p x xs (h x ∙ b) ∙ filter-same p q h xs ∙ sym (filter-no q x xs b))

pub rising-same : (xs ys : List ℕ) → IsRising xs → IsRising ys → ((n : ℕ) → In n xs → In n ys) → ((n : ℕ) → In n ys → In n xs) → xs ≡ ys
rising-same [] [] r s on back = refl
rising-same [] (y ∷ ys) r s on back = absurd (back y (inl refl))
rising-same (x ∷ xs) [] r s on back = absurd (on x (inl refl))
rising-same (x ∷ xs) (y ∷ ys) r s on back =
    let above_x : (n : ℕ) → In n xs → x < n = λ n i. in-all (λ d. x < d) xs n r.0 i in
    let above_y : (n : ℕ) → In n ys → y < n = λ n i. in-all (λ d. y < d) ys n s.0 i in
    let first : x ≡ y = elim (on x (inl refl)) [
      | inl e ↦ e
      | inr i ↦ elim (back y (inl refl)) [ inl e ↦ sym e | inr k ↦ absurd (let a = above_y x i in let b = above_x y k in omega (arith, a, b)) ]
    ] in
    let on_rest : (n : ℕ) → In n xs → In n ys = λ n i. elim (on n (inr i)) [ inl e ↦ absurd (let l = above_x n i in omega (arith, l, first, e)) | inr k ↦ k ] in
    let back_rest : (n : ℕ) → In n ys → In n xs = λ n i. elim (back n (inr i)) [ inl e ↦ absurd (let l = above_y n i in omega (arith, l, first, e)) | inr k ↦ k ] in
    (λ j. first j ∷ rising-same xs ys r.1 s.1 on_rest back_rest j)
