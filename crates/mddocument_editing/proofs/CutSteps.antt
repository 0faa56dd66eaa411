-- A document is cut at its first rest, and what is behind it again.
use Rattle.mddocument_editing.proofs.Prelude.{◌≡◌, ℕ, ◌<◌, ◌≤◌, true, List, [], ◌∷◌, ◌++◌, length, take, drop, refl, sym, ap, ◌∙◌, subst, arith, inl, inr, and_from, cases_lt, le-leb, append-nil, drop-append-le, drop_all, length-drop, length-take, take-append-drop, take-take, AllByRecursion, every-append, ParseOptions, is_rest, begins_line, are_sections_by, document_of, line-behind, AreSectionsOf, IsFirstRest, IsWhole}
use Rattle.std.proofs.lemmas.List.{append_assoc}
use Rattle.mddocument_editing.proofs.Below.{first-tells, rest-begins}
use Rattle.mddocument_editing.proofs.Joined.{document-last, joins, sections-one, tells-all}

module _ (options : ParseOptions) where
  -- some bytes are cut, and the others are left
  pub record IsCut (parts : List (List ℕ)) (left bytes : List ℕ) : Type 0 where
    pub document : document_of parts ++ left ≡ bytes
    pub cut : are_sections_by (is_rest options) parts ≡ true
    pub seam : 0 < length left → are_sections_by (is_rest options) (parts ++ left ∷ []) ≡ true
    pub whole : AllByRecursion (IsWhole options) parts

  tells : (a b c : List ℕ) → 1 ≤ length b → begins_line c b ≡ true → is_rest options a (b ++ c) ≡ is_rest options a b
  tells = tells-all (is_rest options) (first-tells options.constructs options.tab_size) (rest-begins options)

  pub none-cut : (bytes : List ℕ) → IsCut [] bytes bytes
  none-cut bytes = record { document = refl; cut = refl; seam = λ some. sections-one (is_rest options) bytes some; whole = tt }

  pub all-cut : (parts : List (List ℕ)) (left bytes : List ℕ) → IsCut parts left bytes → length left ≡ 0 → AreSectionsOf options bytes parts
  all-cut parts [] bytes h none = record { document = sym (append-nil (document_of parts)) ∙ h.document; cut = h.cut; whole = h.whole }
  all-cut parts (b ∷ left) bytes h none = absurd (omega arith)

  module _ (left : List ℕ) (size : ℕ) (first : IsFirstRest options left size) where
    -- a line begins behind the part, or nothing does
    line : (b : List ℕ) (p : List ℕ) → p ++ b ≡ take size left → 1 ≤ length b → size < length left → begins_line (drop size left) b ≡ true
    line b p e some lt = sym (line-behind p b (drop size left) some) ∙ ap (begins_line (drop size left)) e ∙ rest-begins options (take size left) (drop size left) (first.rest lt)

    -- so a rest is one by the part alone
    same : (a b p : List ℕ) → p ++ b ≡ take size left → 1 ≤ length b → is_rest options a (b ++ drop size left) ≡ is_rest options a b
    same a b p e some = elim (cases_lt size (length left)) [
      | inl lt ↦ tells a b (drop size left) some (line b p e some lt)
      | inr all ↦ ap (λ c. is_rest options a (b ++ c)) (drop_all size left all) ∙ ap (is_rest options a) (append-nil b)
    ]

    -- the part has no rest in it
    pub part-whole : IsWhole options (take size left)
    part-whole k some lt =
        let long : length (take size left) ≡ size = omega (arith, length-take size left, first.within) in
        let inside : k ≤ size = omega (arith, long, lt) in
        let front : take k (take size left) ≡ take k left = take-take k size left inside in
        let b = drop k (take size left) in
        let all : b ++ drop size left ≡ drop k left =
        sym (drop-append-le k (take size left) (drop size left) (omega (arith, long, lt))) ∙ ap (drop k) (take-append-drop size left) in
        sym (same (take k (take size left)) b (take k (take size left)) (take-append-drop k (take size left)) (omega (arith, length-drop k (take size left), long, lt)))
        ∙ ap (is_rest options (take k (take size left))) all
        ∙ ap (λ a. is_rest options a (drop k left)) front
        ∙ first.first k some (omega (arith, long, lt))

    pub next-cut : (parts : List (List ℕ)) (bytes : List ℕ) → IsCut parts left bytes → IsCut (parts ++ take size left ∷ []) (drop size left) bytes
    next-cut parts bytes h =
        let rest = is_rest options in
        let long : length (take size left) ≡ size = omega (arith, length-take size left, first.within) in
        let some : 1 ≤ length (take size left) = omega (arith, long, first.some) in
        let before = h.seam (omega (arith, first.some, first.within)) in
        let seam : are_sections_by rest (parts ++ (take size left ++ drop size left) ∷ []) ≡ true = subst (λ bs. are_sections_by rest (parts ++ bs ∷ []) ≡ true) (sym (take-append-drop size left)) before in
        let told : (a : List ℕ) → rest a (take size left ++ drop size left) ≡ true → rest a (take size left) ≡ true = λ a r. sym (same a (take size left) [] refl some) ∙ r in
        record {
          document = ap (λ bs. bs ++ drop size left) (document-last parts (take size left)) ∙ append_assoc (document_of parts) (take size left) (drop size left) ∙ ap (λ bs. document_of parts ++ bs) (take-append-drop size left) ∙ h.document;
          cut = joins rest parts [] (take size left ++ drop size left) (take size left) seam told (sections-one rest (take size left) some);
          seam = λ more. (
              let lt : size < length left = omega (arith, more, length-drop size left) in
              let both : rest (take size left) (drop size left) ≡ true = first.rest lt in
              let two : are_sections_by rest (take size left ∷ drop size left ∷ []) ≡ true = and_from _ _ (le-leb 1 (length (take size left)) some) (and_from _ _ both (le-leb 1 (length (drop size left)) more)) in
              subst (λ xs. are_sections_by rest xs ≡ true) (sym (append_assoc parts (take size left ∷ []) (drop size left ∷ []))) (joins rest parts (drop size left ∷ []) (take size left ++ drop size left) (take size left) seam told two)
              );
          whole = every-append (IsWhole options) parts (take size left ∷ []) h.whole (part-whole, tt);
        }
