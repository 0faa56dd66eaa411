-- A document is cut at its rests in one way alone.
use Rattle.mddocument_editing.proofs.Prelude.{◌≡◌, ℕ, ◌<◌, ◌≤◌, Bool, true, List, [], ◌∷◌, ◌++◌, length, take, drop, refl, sym, ap, ◌∙◌, subst, arith, and_parts, false≢true, append-nil, drop-append-le, drop_at, length-append, length-drop, take-append-drop, take-append-le, take_at, AllByRecursion, ParseOptions, line-ahead, line-behind, is_rest, begins_line, are_sections_by, document_of, DividedIsUnique, AreSectionsOf, IsWhole}
use Rattle.mddocument_editing.proofs.Below.{first-tells, rest-begins}
use Rattle.mddocument_editing.proofs.Joined.{front-tells, sections-some, sections-tail, tells-all}

module _ (options : ParseOptions) where
  abbrev rest : (a b : List ℕ) → Bool
  rest = is_rest options

  -- Bytes that are a rest are one without the sections behind the first
  without-more : (x b y : List ℕ) (ys : List (List ℕ)) → 1 ≤ length b → y ≡ x ++ b → are_sections_by rest (y ∷ ys) ≡ true → rest x (b ++ document_of ys) ≡ true → rest x b ≡ true
  without-more x b y [] some is cut h = ap (rest x) (sym (append-nil b)) ∙ h
  without-more x b y (w ∷ ys) some is cut h =
      let p = and_parts _ _ cut in
      let q = and_parts _ _ p.1 in
      let next = (sections-tail rest w ys q.1).0 in
      let c = document_of (w ∷ ys) in
      let line : begins_line c b ≡ true = sym (line-behind x b c some) ∙ ap (begins_line c) (sym is) ∙ line-ahead y w (document_of ys) next ∙ rest-begins options y w q.0 in
      sym (tells-all rest (first-tells options.constructs options.tab_size) (rest-begins options) x b c some line) ∙ h

  -- the first section is no shorter than that of others with the same bytes
  no-shorter : (x y : List ℕ) (xs ys : List (List ℕ)) → are_sections_by rest (x ∷ xs) ≡ true → are_sections_by rest (y ∷ ys) ≡ true → IsWhole options y
      → document_of (x ∷ xs) ≡ document_of (y ∷ ys) → ¬ (length x < length y)
  no-shorter x y [] ys cut other whole same less = absurd (omega (arith, ap length same, length-append x [], length-append y (document_of ys), less))
  no-shorter x y (z ∷ xs) ys cut other whole same less =
      let k = length x in
      let more = document_of (z ∷ xs) in
      let tail = sections-tail rest x (z ∷ xs) cut in
      let p = and_parts _ _ cut in
      let q = and_parts _ _ p.1 in
      let le : k ≤ length y = omega (arith, less) in
      let front : take k y ≡ x = sym (take-append-le k y (document_of ys) le) ∙ ap (take k) (sym same) ∙ take_at x more k refl in
      let left : more ≡ drop k y ++ document_of ys = sym (drop_at x more k refl) ∙ ap (drop k) same ∙ drop-append-le k y (document_of ys) le in
      let told : rest x more ≡ true = front-tells rest (first-tells options.constructs options.tab_size) (rest-begins options) x z xs tail.1 ∙ q.0 in
      let parted : y ≡ x ++ drop k y = sym (take-append-drop k y) ∙ ap (λ a. a ++ drop k y) front in
      let here : rest x (drop k y) ≡ true = without-more x (drop k y) y ys (omega (arith, length-drop k y, less)) parted other (ap (rest x) (sym left) ∙ told) in
      false≢true (sym (whole k (omega (arith, tail.0)) less) ∙ ap (λ a. rest a (drop k y)) front ∙ here)

  -- sections with the same bytes are the same, if each ends at the first rest
  pub sections-unique : (xs ys : List (List ℕ)) → are_sections_by rest xs ≡ true → are_sections_by rest ys ≡ true → AllByRecursion (IsWhole options) xs → AllByRecursion (IsWhole options) ys
      → document_of xs ≡ document_of ys → xs ≡ ys
  sections-unique [] [] cut other whole all same = refl
  sections-unique [] (y ∷ ys) cut other whole all same = absurd (omega (arith, ap length same, sections-some rest (y ∷ ys) other))
  sections-unique (x ∷ xs) [] cut other whole all same = absurd (omega (arith, ap length same, sections-some rest (x ∷ xs) cut))
  sections-unique (x ∷ xs) (y ∷ ys) cut other whole all same =
      let size : length x ≡ length y = omega (arith, no-shorter x y xs ys cut other all.0 same, no-shorter y x ys xs other cut whole.0 (sym same)) in
      let first : x ≡ y =
      sym (take_at x (document_of xs) (length x) refl) ∙ ap (take (length x)) same ∙ ap (λ n. take n (y ++ document_of ys)) size ∙ take_at y (document_of ys) (length y) refl in
      let left : document_of xs ≡ document_of ys =
      sym (drop_at x (document_of xs) (length x) refl) ∙ ap (drop (length x)) same ∙ ap (λ n. drop n (y ++ document_of ys)) size ∙ drop_at y (document_of ys) (length y) refl in
      ap (λ z. z ∷ xs) first
      ∙ ap (λ zs. y ∷ zs) (sections-unique xs ys (sections-tail rest x xs cut).1 (sections-tail rest y ys other).1 whole.1 all.1 left)

pub divided-unique : DividedIsUnique
divided-unique d e is also options bytes =
    let other : AreSectionsOf d.options (document_of e.sections) e.sections = subst (λ o. AreSectionsOf o (document_of e.sections) e.sections) (sym options) also.sections in
    let sections : d.sections ≡ e.sections = sections-unique d.options d.sections e.sections is.sections.cut other.cut is.sections.whole other.whole bytes in
    λ i. record { options = options i; sections = sections i }
