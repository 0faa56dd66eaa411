-- Lists joined end to end: one more of them, and how long they are.
use Rattle.mddocument_editing.proofs.Prelude.{◌≡◌, ℕ, zero, suc, ◌+◌, ◌*◌, ◌<◌, ◌≤◌, Bool, List, [], ◌∷◌, ◌++◌, length, map, take, get_or, sym, ap, ◌∙◌, arith, add-one, append_assoc, refl, subst, or_assoc, or_comm, mul-le-mul_left, length-append, list_any-append, AllByRecursion, flat_map, list_any, ◌||◌, ParseOptions, IsWithinLimit, document_of, IsDivided, AreSectionsOf}
use Rattle.std.proofs.Common.{append-nil}

-- what holds of each element holds of the one at an index
pub every-at : {X : Type 0} (P : X → Type 0) (xs : List X) (i : ℕ) (d : X) → AllByRecursion P xs → i < length xs → P (get_or xs i d)
every-at P [] i d all within = absurd (omega arith)
every-at P (x ∷ xs) zero d all within = all.0
every-at P (x ∷ xs) (suc i) d all within = every-at P xs i d all.1 (omega arith)

module _ {X Y A : Type 0} (f : Y → List A) (v : X → Y) where
  joined-next : (xs : List X) (i : ℕ) (d : X) → i < length xs → flat_map f (map v (take (suc i) xs)) ≡ flat_map f (map v (take i xs)) ++ f (v (get_or xs i d))
  joined-next [] i d within = absurd (omega arith)
  joined-next (x ∷ xs) zero d within = append-nil (f (v x))
  joined-next (x ∷ xs) (suc i) d within =
      ap (λ ys. f (v x) ++ ys) (joined-next xs i d (omega arith)) ∙ sym (append_assoc (f (v x)) (flat_map f (map v (take i xs))) (f (v (get_or xs i d))))

  -- one more, behind those up to an index
  pub joined-more : (xs : List X) (i : ℕ) (d : X) → i < length xs → flat_map f (map v (take (i + 1) xs)) ≡ flat_map f (map v (take i xs)) ++ f (v (get_or xs i d))
  joined-more xs i d within = ap (λ k. flat_map f (map v (take k xs))) (add-one i) ∙ joined-next xs i d within

  -- those up to an index are no longer than all
  pub joined-within : (xs : List X) (i : ℕ) → length (flat_map f (map v (take i xs))) ≤ length (flat_map f (map v xs))
  joined-within [] zero = omega arith
  joined-within [] (suc i) = omega arith
  joined-within (x ∷ xs) zero = omega arith
  joined-within (x ∷ xs) (suc i) =
      omega (arith, joined-within xs i, length-append (f (v x)) (flat_map f (map v (take i xs))), length-append (f (v x)) (flat_map f (map v xs)))

  -- an answer that is settled by those up to an index, or was before, and one more that settles it
  pub settled-more : (p : A → Bool) (xs : List X) (i : ℕ) (d : X) (new one now old : Bool) → i < length xs
      → new ≡ (one || now) → one ≡ list_any p (f (v (get_or xs i d))) → now ≡ (list_any p (flat_map f (map v (take i xs))) || old)
      → new ≡ (list_any p (flat_map f (map v (take (i + 1) xs))) || old)
  settled-more p xs i d new one now old within made is so_far =
      let front = flat_map f (map v (take i xs)) in
      let next = f (v (get_or xs i d)) in
      made ∙ ap (λ b. b || now) is ∙ ap (λ b. list_any p next || b) so_far
      ∙ sym (or_assoc (list_any p next) (list_any p front) old)
      ∙ ap (λ b. b || old) (or_comm (list_any p next) (list_any p front) ∙ sym (list_any-append p front next) ∙ ap (list_any p) (sym (joined-more xs i d within)))

-- each section of a document within the limit is within the limit
pub sections-within : (t : ℕ) (sections : List (List ℕ)) → IsWithinLimit t (document_of sections) → AllByRecursion (IsWithinLimit t) sections
sections-within t [] limit = tt
sections-within t (s ∷ more) limit =
    let long = length-append s (document_of more) in
    let front : t * length s ≤ t * length (s ++ document_of more) = mul-le-mul_left t (omega (arith, long)) in
    let rest : t * length (document_of more) ≤ t * length (s ++ document_of more) = mul-le-mul_left t (omega (arith, long)) in
    (omega (arith, front, limit), sections-within t more (omega (arith, rest, limit)))

-- bytes within the limit, with their sections, are a document that is cut
pub divided-cut : (options : ParseOptions) (bytes : List ℕ) (parts : List (List ℕ)) → AreSectionsOf options bytes parts → IsWithinLimit options.tab_size bytes → IsDivided (record { options = options; sections = parts })
divided-cut options bytes parts are limit = record {
  limit = subst (IsWithinLimit options.tab_size) (sym are.document) limit;
  sections = record { document = refl; cut = are.cut; whole = are.whole };
}
