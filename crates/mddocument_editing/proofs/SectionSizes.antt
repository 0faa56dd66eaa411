-- The bytes of the first few items, each of which has some: one more, and all.
use Rattle.mddocument_editing.proofs.Prelude.{◌≡◌, ℕ, ◌+◌, ◌-◌, ◌<◌, ◌≤◌, List, [], ◌∷◌, ◌++◌, length, take, drop, get_or, sym, ap, ◌∙◌, arith, drop-append_seam, take-append-add, take-append_seam, drop-map, drop_more, length-append, map-append, take-append-le, take-map, take-take, take_more, document_of, map}
use Rattle.mddocument_editing.proofs.Joined.{document-cut, document-last}

module _ {X : Type 0} (f : X → List ℕ) (xs : List X) where
  pub bytes-more : (i : ℕ) (x : X) → i < length xs → x ≡ get_or xs i x → document_of (take (i + 1) (map f xs)) ≡ document_of (take i (map f xs)) ++ f x
  bytes-more i x lt is =
      ap document_of (take-map f (i + 1) xs ∙ ap (map f) (take_more xs i x lt ∙ ap (λ y. take i xs ++ y ∷ []) (sym is)) ∙ map-append f (take i xs) (x ∷ []) ∙ ap (λ ys. ys ++ f x ∷ []) (sym (take-map f i xs)))
      ∙ document-last (take i (map f xs)) (f x)

  pub size-more : (i : ℕ) (x : X) → i < length xs → x ≡ get_or xs i x → length (document_of (take (i + 1) (map f xs))) ≡ length (document_of (take i (map f xs))) + length (f x)
  size-more i x lt is = ap length (bytes-more i x lt is) ∙ length-append (document_of (take i (map f xs))) (f x)

  -- and one fewer
  pub size-less : (i : ℕ) (x : X) → 0 < i → i ≤ length xs → x ≡ get_or xs (i - 1) x → length (document_of (take i (map f xs))) ≡ length (document_of (take (i - 1) (map f xs))) + length (f x)
  size-less i x some within is =
      let e : i ≡ (i - 1) + 1 = omega arith in
      ap (λ n. length (document_of (take n (map f xs)))) e ∙ size-more (i - 1) x (omega arith) is

  pub bytes-behind : (i : ℕ) (x : X) → i < length xs → x ≡ get_or xs i x → document_of (drop i (map f xs)) ≡ f x ++ document_of (drop (i + 1) (map f xs))
  bytes-behind i x lt is =
      ap document_of (drop-map f i xs ∙ ap (map f) (drop_more xs i x lt ∙ ap (λ y. y ∷ drop (i + 1) xs) (sym is)) ∙ ap (λ ys. f x ∷ ys) (sym (drop-map f (i + 1) xs)))

-- those in front are no more than all
pub size-front : (i : ℕ) (xs : List (List ℕ)) → length (document_of (take i xs)) + length (document_of (drop i xs)) ≡ length (document_of xs)
size-front i xs = sym (length-append (document_of (take i xs)) (document_of (drop i xs))) ∙ ap length (document-cut i xs)

-- the bytes of the first few are no more than those of more
pub size-fewer : (few many : ℕ) (xs : List (List ℕ)) → few ≤ many → length (document_of (take few xs)) ≤ length (document_of (take many xs))
size-fewer few many xs less = omega (arith, size-front few (take many xs), ap (λ ys. length (document_of ys)) (take-take few many xs less))

-- what is behind the bytes of those in front are the bytes of the others
pub bytes-left : (i : ℕ) (xs : List (List ℕ)) → drop (length (document_of (take i xs))) (document_of xs) ≡ document_of (drop i xs)
bytes-left i xs = ap (drop (length (document_of (take i xs)))) (sym (document-cut i xs)) ∙ drop-append_seam (document_of (take i xs)) (document_of (drop i xs))

pub bytes-front : (i : ℕ) (xs : List (List ℕ)) → take (length (document_of (take i xs))) (document_of xs) ≡ document_of (take i xs)
bytes-front i xs = ap (take (length (document_of (take i xs)))) (sym (document-cut i xs)) ∙ take-append_seam (document_of (take i xs)) (document_of (drop i xs))

-- ---- bytes from the beginning of an item on
module _ {X : Type 0} (f : X → List ℕ) (xs : List X) (i start : ℕ) (x : X) (at : start ≡ length (document_of (take i (map f xs)))) (lt : i < length xs) (is : x ≡ get_or xs i x) where
  bytes-from : drop start (document_of (map f xs)) ≡ f x ++ document_of (drop (i + 1) (map f xs))
  bytes-from = ap (λ n. drop n (document_of (map f xs))) at ∙ bytes-left i (map f xs) ∙ bytes-behind f xs i x lt is

  -- those of the item
  pub bytes-inside : (n : ℕ) → n ≤ length (f x) → take n (drop start (document_of (map f xs))) ≡ take n (f x)
  bytes-inside n few = ap (take n) bytes-from ∙ take-append-le n (f x) (document_of (drop (i + 1) (map f xs))) few

  -- and more
  pub bytes-outside : (n : ℕ) → length (f x) ≤ n → take n (drop start (document_of (map f xs))) ≡ f x ++ take (n - length (f x)) (document_of (drop (i + 1) (map f xs)))
  bytes-outside n many =
      let e : n ≡ length (f x) + (n - length (f x)) = omega arith in
      ap (take n) bytes-from ∙ ap (λ k. take k (f x ++ document_of (drop (i + 1) (map f xs)))) e ∙ take-append-add (f x) (document_of (drop (i + 1) (map f xs))) (n - length (f x))
