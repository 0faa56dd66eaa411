-- Lines of sections: each section starts one, and their line endings add.
use Rattle.mddocument_editing.proofs.Prelude.{◌≡◌, ℕ, ◌+◌, true, List, ◌∷◌, [], ◌++◌, refl, ap, ◌∙◌, arith, and_parts, append-nil, length-append, ParseOptions, is_rest, begins_line, line_endings, are_sections_by, document_of, line-ahead, line-behind}
use Rattle.mddocument_editing.proofs.Below.{rest-begins}
use Rattle.mddocument_editing.proofs.CutLines.{endings-are-counted, parts-start-lines}
use Rattle.mddocument_editing.proofs.Joined.{document-append, sections-back, sections-tail}
use Rattle.mddocument_editing.proofs.PartsMove.{endings-add}
use Rattle.mddocument_editing.proofs.SectionFronts.{lines_in, sum-cons}

-- the line endings of two parts add, if a line begins with the second
pub line-endings-add : (a b : List ℕ) → begins_line b a ≡ true → line_endings (a ++ b) ≡ line_endings a + line_endings b
line-endings-add a b starts =
    let add = endings-add a b (parts-start-lines a b starts) in
    omega (arith, add, endings-are-counted a, endings-are-counted b, endings-are-counted (a ++ b))

module _ (options : ParseOptions) where
  abbrev pub AreCut : List (List ℕ) → Type 0
  AreCut xs = are_sections_by (is_rest options) xs ≡ true

  -- sections begin a line behind others
  pub seam-begins : (xs : List (List ℕ)) (s : List ℕ) (ys : List (List ℕ)) → AreCut (xs ++ s ∷ ys) → begins_line (document_of (s ∷ ys)) (document_of xs) ≡ true
  seam-begins [] s ys cut = refl
  seam-begins (x ∷ []) s ys cut =
      let rest = (and_parts _ _ (and_parts _ _ cut).1).0 in
      let some = (sections-tail (is_rest options) s ys (sections-back (is_rest options) (x ∷ []) (s ∷ ys) cut)).0 in
      ap (begins_line (document_of (s ∷ ys))) (append-nil x) ∙ line-ahead x s (document_of ys) some ∙ rest-begins options x s rest
  seam-begins (x ∷ y ∷ xs) s ys cut =
      let tail = (sections-tail (is_rest options) x (y ∷ xs ++ s ∷ ys) cut).1 in
      let some = (sections-tail (is_rest options) y (xs ++ s ∷ ys) tail).0 in
      line-behind x (document_of (y ∷ xs)) (document_of (s ∷ ys)) (omega (arith, length-append y (document_of xs), some)) ∙ seam-begins (y ∷ xs) s ys tail

  -- their line endings add
  pub lines-add : (xs ys : List (List ℕ)) → AreCut (xs ++ ys) → line_endings (document_of (xs ++ ys)) ≡ line_endings (document_of xs) + line_endings (document_of ys)
  lines-add xs [] cut = ap (λ l. line_endings (document_of l)) (append-nil xs) ∙ omega arith
  lines-add xs (s ∷ ys) cut = ap line_endings (document-append xs (s ∷ ys)) ∙ line-endings-add (document_of xs) (document_of (s ∷ ys)) (seam-begins xs s ys cut)

  -- those of each section make those of all
  pub lines-all : (xs : List (List ℕ)) → AreCut xs → lines_in xs ≡ line_endings (document_of xs)
  lines-all [] cut = refl
  lines-all (x ∷ xs) cut =
      let tail = (sections-tail (is_rest options) x xs cut).1 in
      let one = ap line_endings (append-nil x) in
      omega (arith, sum-cons line_endings x xs, lines-all xs tail, lines-add (x ∷ []) xs cut, one)
