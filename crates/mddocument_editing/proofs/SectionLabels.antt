-- The labels of a document that is cut: those of its sections, one after another.
use Rattle.mddocument_editing.proofs.Prelude.{◌≡◌, ℕ, ◌≤◌, true, List, [], ◌∷◌, ◌++◌, length, sym, ap, ◌∙◌, and_parts, leb-true, flat_map, ParseOptions, is_one_of, is_rest, are_sections_by, bytes_of, document, document_of, Divided, IsDivided, labels_written, ◌&&◌, nat_le, IsDocument, Key, is_key_of, is_written, link, note}
use Rattle.std.proofs.Common.{Bool, append-nil}
use Rattle.mddocument.proofs.DefinedLabels.{labels-are-defined}
use Rattle.mddocument_editing.proofs.Below.{first-tells, labels-both, labels-none, notes-of-all, rest-begins}

module _ (options : ParseOptions) where
  -- what the test of sections says of the first of them and the next
  pub record IsCutBehind (s next : List ℕ) (more : List (List ℕ)) : Type 0 where
    pub some : 1 ≤ length s
    pub rest : is_rest options s next ≡ true
    pub cut : are_sections_by (is_rest options) (next ∷ more) ≡ true

  pub cut-behind : (s next : List ℕ) (more : List (List ℕ)) → are_sections_by (is_rest options) (s ∷ next ∷ more) ≡ true → IsCutBehind s next more
  cut-behind s next more cut =
      let is = and_parts (nat_le 1 (length s)) (is_rest options s next && are_sections_by (is_rest options) (next ∷ more)) cut in
      let behind = and_parts (is_rest options s next) (are_sections_by (is_rest options) (next ∷ more)) is.1 in
      record { some = leb-true 1 (length s) is.0; rest = behind.0; cut = behind.1 }

  -- all that is behind a section begins at a rest
  pub rest-behind : (s next : List ℕ) (more : List (List ℕ)) → are_sections_by (is_rest options) (s ∷ next ∷ more) ≡ true → is_rest options s (document_of (next ∷ more)) ≡ true
  rest-behind s next [] cut = ap (is_rest options s) (append-nil next) ∙ (cut-behind s next [] cut).rest
  rest-behind s next (third ∷ more) cut =
      let here = cut-behind s next (third ∷ more) cut in
      let some = (cut-behind next third more here.cut).some in
      let ends = rest-begins options next (document_of (third ∷ more)) (rest-behind next third more here.cut) in
      first-tells options.constructs options.tab_size s next (document_of (third ∷ more)) some ends (rest-begins options s next here.rest) ∙ here.rest

  pub labels-of-sections : (sections : List (List ℕ)) → are_sections_by (is_rest options) sections ≡ true
      → labels_written options (document_of sections) ≡ flat_map (labels_written options) sections
  labels-of-sections [] cut = labels-none options.constructs options.tab_size
  labels-of-sections (s ∷ []) cut = ap (labels_written options) (append-nil s) ∙ sym (append-nil (labels_written options s))
  labels-of-sections (s ∷ next ∷ more) cut =
      labels-both options.constructs options.tab_size s (document_of (next ∷ more)) (rest-behind s next more cut)
      ∙ ap (λ labels. labels_written options s ++ labels) (labels-of-sections (next ∷ more) (cut-behind s next more cut).cut)

-- a label is defined in a document that is cut if it is one of those of its sections
pub labels-divided : (d : Divided) → IsDocument (document d.options (bytes_of d)) → IsDivided d → (key : Key) → is_written d.options d.sections key ≡ is_key_of d key
labels-divided d possible divided (link label) =
    ap (λ labels. is_one_of labels label) (sym (labels-of-sections d.options d.sections divided.sections.cut)) ∙ ap (λ (is : List ℕ → Bool). is label) (sym (labels-are-defined (document d.options (bytes_of d))))
labels-divided d possible divided (note label) = ap (λ labels. is_one_of labels label) (sym (notes-of-all d.options d.sections possible divided.sections.cut))
