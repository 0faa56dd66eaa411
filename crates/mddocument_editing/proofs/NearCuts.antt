-- A text that is cut with the first line of a section behind it.
use Rattle.mddocument_editing.proofs.Prelude.{◌≡◌, ℕ, suc, ◌+◌, ◌<◌, ◌≤◌, true, List, [], ◌∷◌, ◌++◌, length, take, drop, get_or, refl, sym, ap, ◌∙◌, subst, arith, append-nil, drop-append_seam, length-drop, length-map, length-take-le, take-append-drop, take-append_seam, every-front, Option, None, Some, IfSome, ParseOptions, ends_line, is_line_start, is_rest, begins_line, document_of, AreSectionsOf, IsSeam, IsWhole, IsKept, Kept, Section, bytes_of_sections}
use Rattle.mddocument_editing.proofs.Below.{first-tells, rest-begins}
use Rattle.mddocument_editing.proofs.CountedEndings.{starts-line}
use Rattle.mddocument_editing.proofs.Joined.{document-append, gathers, joins, section-some, sections-front, sections-one, tells-all}
use Rattle.mddocument_editing.proofs.Trims.{section-at}

-- what holds holds of a value, if there is one
pub of-some : {X : Type 0} (found : Option X) {P : Type 0} → P → IfSome found (λ _. P)
of-some None p = tt
of-some (Some x) p = p

-- what holds of a value, if there is one, holds of that which there is
pub some-is : {X : Type 0} (P : X → Type 0) {found : Option X} {x : X} → found ≡ Some x → IfSome found P → P x
some-is P is h = subst (λ o. IfSome o P) is h

-- behind a byte that ends a line another begins
pub line-begins : (bytes : List ℕ) (i : ℕ) → i < length bytes → ends_line bytes i ≡ true → begins_line (drop (i + 1) bytes) (take (i + 1) bytes) ≡ true
line-begins bytes i lt ends =
    let front = take (i + 1) bytes in
    let long : length front ≡ suc i = omega (arith, length-take-le (i + 1) bytes (omega (arith, lt))) in
    sym (starts-line begins_line (λ behind. refl) (λ behind b. refl) (λ behind b c bs. refl) front (drop (i + 1) bytes))
    ∙ ap (λ bs. is_line_start bs (length front)) (take-append-drop (i + 1) bytes) ∙ ap (is_line_start bytes) long ∙ ends

-- a section of what is kept, by its number: its bytes, of which it has some
module _ (k : Kept) {i : ℕ} {x : Section} {bytes : List ℕ} (lt : i < length k.sections.items) (is : x ≡ get_or k.sections.items i x) (value : bytes ≡ x.part.bytes.items) where
  pub near-is : bytes ≡ get_or (bytes_of_sections k.sections.items) i []
  near-is = value ∙ sym (section-at k.sections.items i x lt is)

  pub near-some : IsKept k → 0 < length bytes
  near-some kept =
      let some = section-some (is_rest k.options) (bytes_of_sections k.sections.items) i kept.divided.sections.cut (omega (arith, lt, length-map k.sections.items (λ (section : Section). section.part.bytes.items))) in
      subst (λ bs. 0 < length bs) (sym near-is) some

module _ (options : ParseOptions) (text line : List ℕ) (some : 1 ≤ length line) where
  -- what is behind the line does not matter
  told : (tail : List ℕ) → (1 ≤ length tail → begins_line tail line ≡ true) → (a : List ℕ) → is_rest options a (line ++ tail) ≡ is_rest options a line
  told [] next a = ap (is_rest options a) (append-nil line)
  told (t ∷ tail) next a = tells-all (is_rest options) (first-tells options.constructs options.tab_size) (rest-begins options) a line (t ∷ tail) some (next (omega arith))

  -- parts that are the text: behind them, what begins with the line is at a rest
  module _ (parts more : List (List ℕ)) (are : AreSectionsOf options (text ++ line) (parts ++ more)) (met : length (document_of parts) ≡ length text) where
    both : document_of parts ++ document_of more ≡ text ++ line
    both = sym (document-append parts more) ∙ are.document

    left : document_of more ≡ line
    left = sym (drop-append_seam (document_of parts) (document_of more)) ∙ ap (drop (length (document_of parts))) both ∙ ap (λ n. drop n (text ++ line)) met ∙ drop-append_seam text line

    pub near-sections : AreSectionsOf options text parts
    near-sections = record {
      document = sym (take-append_seam (document_of parts) (document_of more)) ∙ ap (take (length (document_of parts))) both ∙ ap (λ n. take n (text ++ line)) met ∙ take-append_seam text line;
      cut = sections-front (is_rest options) parts more are.cut;
      whole = every-front (IsWhole options) parts more are.whole;
    }

    pub near-seam : (tail : List ℕ) → (1 ≤ length tail → begins_line tail line ≡ true) → IsSeam options parts (line ++ tail)
    near-seam tail next full =
        let rest = is_rest options in
        let one = gathers rest (first-tells options.constructs options.tab_size) (rest-begins options) parts more are.cut (some-of more left) in
        joins rest parts [] (document_of more) (line ++ tail) one (λ a r. told tail next a ∙ ap (rest a) (sym left) ∙ r) (sections-one rest (line ++ tail) full)
      where
        some-of : (ps : List (List ℕ)) → document_of ps ≡ line → 0 < length ps
        some-of [] e = absurd (omega (arith, ap length e, some))
        some-of (p ∷ ps) e = omega arith

-- so too with the first bytes of a section, if they end a line or are all of it
module _ (options : ParseOptions) (text section : List ℕ) (n : ℕ) {whole : List ℕ} (some : 0 < n) (within : n ≤ length section) (line : n < length section → begins_line (drop n section) (take n section) ≡ true)
    (whole-is : whole ≡ text ++ take n section) (parts : List (List ℕ)) where
  -- parts of all, of which these are the text
  abbrev pub AreFront : Type 0
  AreFront = (more : List (List ℕ)) × (AreSectionsOf options whole (parts ++ more) × (length (document_of parts) ≡ length text))

  size : length (take n section) ≡ n
  size = length-take-le n section within

  pub front-sections : AreFront → AreSectionsOf options text parts
  front-sections f = near-sections options text (take n section) (omega (arith, size, some)) parts f.0 (subst (λ bs. AreSectionsOf options bs (parts ++ f.0)) whole-is f.1.0) f.1.1

  pub front-seam : AreFront → IsSeam options parts section
  front-seam f =
      subst (IsSeam options parts) (take-append-drop n section)
      (near-seam options text (take n section) (omega (arith, size, some)) parts f.0 (subst (λ bs. AreSectionsOf options bs (parts ++ f.0)) whole-is f.1.0) f.1.1 (drop n section)
      (λ more. line (omega (arith, more, length-drop n section))))
