-- Sections that are cut again are put in the place of others.
use Rattle.mddocument_editing.proofs.Prelude.{◌≡◌, ℕ, ◌+◌, ◌-◌, ◌<◌, ◌≤◌, true, List, [], ◌∷◌, ◌++◌, length, take, drop, refl, sym, ap, ◌∙◌, subst, arith, inl, inr, drop-append-add, take-append-add, append-nil, drop-append-le, drop-drop, drop-take, drop_all, length-drop, length-take, take-append-drop, take-append-le, take-take, take_all, drop_more, get_or, AllByRecursion, every-append, every-drop, every-take, ParseOptions, is_rest, are_sections_by, document_of, AreSectionsOf, IsWhole, IsSeam, is_settled, ◌⊎◌}
use Rattle.std.proofs.lemmas.List.{append_assoc}
use Rattle.mddocument_editing.proofs.Below.{first-tells, rest-begins}
use Rattle.mddocument_editing.proofs.Joined.{document-append, document-cut, gathers, joins, meets, puts-back, section-some, sections-drop, sections-one, sections-take}
use Rattle.mddocument_editing.proofs.SectionSizes.{bytes-front, bytes-left}
use Rattle.mddocument_editing.proofs.SettledBytes.{settled-some, settled-tells}

-- the first few of a list, and some more
pub take-both : {X : Type 0} (n m : ℕ) (xs : List X) → take n xs ++ take m (drop n xs) ≡ take (n + m) xs
take-both n m xs = rw (← drop-take n m xs, ← take-take n (n + m) xs (omega arith)) (take-append-drop n (take (n + m) xs))

module _ (options : ParseOptions) (old : List (List ℕ)) (from behind : ℕ) (text : List ℕ) (is : AreSectionsOf options (document_of old) old) (seam : IsSeam options (take from old) (text ++ document_of (drop behind old))) where
  -- sections of what is in front, of the text and of what is behind
  pub record AreBack (sections : List (List ℕ)) : Type 0 where
    pub sections_of : AreSectionsOf options (document_of sections) sections
    pub bytes : document_of sections ≡ document_of (take from old) ++ (text ++ document_of (drop behind old))

  back : (ys : List (List ℕ)) → are_sections_by (is_rest options) ys ≡ true → AllByRecursion (IsWhole options) ys → document_of ys ≡ text ++ document_of (drop behind old)
      → AreBack (take from old ++ ys)
  back ys cut whole same = record {
    sections_of = record {
      document = refl;
      cut = puts-back (is_rest options) (first-tells options.constructs options.tab_size) (rest-begins options) (take from old) ys (sections-take (is_rest options) from old is.cut) cut
          (subst (λ bytes. IsSeam options (take from old) bytes) (sym same) seam);
      whole = every-append (IsWhole options) (take from old) ys (every-take (IsWhole options) from old is.whole) whole;
    };
    bytes = document-append (take from old) ys ∙ ap (λ bs. document_of (take from old) ++ bs) same;
  }

  -- the text is cut, and the section behind it begins at a rest as before
  pub back-near : (parts : List (List ℕ)) → AreSectionsOf options text parts → IsSeam options parts (get_or old behind []) → behind < length old → AreBack (take from old ++ (parts ++ drop behind old))
  back-near parts are near lt =
      let rest = is_rest options in
      let section = get_or old behind [] in
      let left : drop behind old ≡ section ∷ drop (behind + 1) old = drop_more old behind [] lt in
      let theirs : are_sections_by rest (section ∷ drop (behind + 1) old) ≡ true = subst (λ ys. are_sections_by rest ys ≡ true) left (sections-drop rest behind old is.cut) in
      let cut : are_sections_by rest (parts ++ drop behind old) ≡ true =
      subst (λ ys. are_sections_by rest (parts ++ ys) ≡ true) (sym left) (joins rest parts (drop (behind + 1) old) section section (near (section-some rest old behind is.cut lt)) (λ a r. r) theirs) in
      back (parts ++ drop behind old) cut (every-append (IsWhole options) parts (drop behind old) are.whole (every-drop (IsWhole options) behind old is.whole))
      (document-append parts (drop behind old) ∙ ap (λ bs. bs ++ document_of (drop behind old)) are.document)

  module _ (count : ℕ) (parts : List (List ℕ)) (are : AreSectionsOf options (text ++ document_of (take count (drop behind old))) parts) where
    -- all that are behind are cut again
    pub back-all : (end : ℕ) → length old ≤ end → length (drop behind old) ≤ count → AreBack (take from old ++ (parts ++ drop end old))
    back-all end last all =
        let none : parts ≡ parts ++ drop end old = sym (append-nil parts) ∙ ap (λ ys. parts ++ ys) (sym (drop_all end old last)) in
        subst (λ ys. AreBack (take from old ++ ys)) none
        (back parts are.cut are.whole (are.document ∙ ap (λ ys. text ++ document_of ys) (take_all count (drop behind old) all)))

    -- or those up to one where a part ends
    pub back-met : (some passed : ℕ) → passed < length (take count (drop behind old))
        → length (document_of (take some parts)) ≡ length text + length (document_of (take passed (take count (drop behind old)))) → AreBack (take from old ++ (take some parts ++ drop (behind + passed) old))
    back-met some passed lt met =
        let left = drop behind old in
        let few : passed + (count - passed) ≡ count = omega (arith, length-take count left) in
        let m = count - passed in
        let ws = take m (drop passed left) in
        let more = drop m (drop passed left) in
        let looked : drop passed (take count left) ≡ ws = ap (λ k. drop passed (take k left)) (sym few) ∙ drop-take passed m left in
        let front : take passed (take count left) ≡ take passed left = take-take passed count left (omega arith) in
        let some_left : 0 < length ws = omega (arith, ap length looked, length-drop passed (take count left)) in
        let split : drop (length text + length (document_of (take passed (take count left)))) (text ++ document_of (take count left)) ≡ document_of ws =
        drop-append-add text (document_of (take count left)) (length (document_of (take passed (take count left)))) ∙ bytes-left passed (take count left) ∙ ap document_of looked in
        let same : document_of (drop some parts) ≡ document_of ws =
        sym (bytes-left some parts) ∙ ap (λ bs. drop (length (document_of (take some parts))) bs) are.document ∙ ap (λ k. drop k (text ++ document_of (take count left))) met ∙ split in
        let kept : document_of (take some parts) ≡ text ++ document_of (take passed left) =
        sym (bytes-front some parts) ∙ ap (λ bs. take (length (document_of (take some parts))) bs) are.document ∙ ap (λ k. take k (text ++ document_of (take count left))) met
        ∙ take-append-add text (document_of (take count left)) (length (document_of (take passed (take count left)))) ∙ ap (λ bs. text ++ bs) (bytes-front passed (take count left) ∙ ap document_of front) in
        let behind_all : ws ++ more ≡ drop (behind + passed) old = take-append-drop m (drop passed left) ∙ drop-drop passed behind old in
        let theirs : are_sections_by (is_rest options) (ws ++ more) ≡ true =
        subst (λ ys. are_sections_by (is_rest options) ys ≡ true) (sym behind_all) (sections-drop (is_rest options) (behind + passed) old is.cut) in
        let ours : are_sections_by (is_rest options) (take some parts ++ drop some parts) ≡ true = subst (λ ys. are_sections_by (is_rest options) ys ≡ true) (sym (take-append-drop some parts)) are.cut in
        let cut = meets (is_rest options) (first-tells options.constructs options.tab_size) (rest-begins options) (take some parts) (drop some parts) ws more ours theirs same some_left in
        let bytes : document_of (take some parts ++ drop (behind + passed) old) ≡ text ++ document_of left =
        document-append (take some parts) (drop (behind + passed) old)
        ∙ ap (λ bs. bs ++ document_of (drop (behind + passed) old)) kept
        ∙ append_assoc text (document_of (take passed left)) (document_of (drop (behind + passed) old))
        ∙ ap (λ ys. text ++ (document_of (take passed left) ++ document_of ys)) (sym (drop-drop passed behind old))
        ∙ ap (λ bs. text ++ bs) (document-cut passed left) in
        back (take some parts ++ drop (behind + passed) old) (subst (λ ys. are_sections_by (is_rest options) (take some parts ++ ys) ≡ true) behind_all cut)
        (every-append (IsWhole options) (take some parts) (drop (behind + passed) old) (every-take (IsWhole options) some parts are.whole) (every-drop (IsWhole options) (behind + passed) old is.whole))
        bytes

-- ---- an edit

-- bytes with others in the place of some in the middle of them
pub edited-middle : (a m z w : List ℕ) (i j : ℕ) → i ≤ length m → j ≤ length m
    → a ++ ((take i m ++ (w ++ drop j m)) ++ z) ≡ take (length a + i) (a ++ (m ++ z)) ++ (w ++ drop (length a + j) (a ++ (m ++ z)))
edited-middle a m z w i j few less = rw (take-append-add a (m ++ z) i, take-append-le i m z few, drop-append-add a (m ++ z) j, drop-append-le j m z less) (simp append_assoc)

module _ (options : ParseOptions) where
  -- sections begin at a rest as before, if a line ends in front of what is new
  pub seam-settled : (xs ys : List (List ℕ)) (i : ℕ) (x : List ℕ) → are_sections_by (is_rest options) (xs ++ ys) ≡ true → is_settled (take i (document_of ys)) ≡ true → IsSeam options xs (take i (document_of ys) ++ x)
  seam-settled xs ys i x cut settled some =
      let rest = is_rest options in
      let front = take i (document_of ys) in
      let full : 0 < length (document_of ys) = omega (arith, settled-some front settled, length-take i (document_of ys)) in
      let before = gathers rest (first-tells options.constructs options.tab_size) (rest-begins options) xs ys cut (some-of ys full) in
      joins rest xs [] (document_of ys) (front ++ x) before
      (λ a r. settled-tells rest (first-tells options.constructs options.tab_size) (rest-begins options) a front x (drop i (document_of ys)) settled ∙ ap (rest a) (take-append-drop i (document_of ys)) ∙ r)
      (sections-one rest (front ++ x) some)
    where
      some-of : (ys : List (List ℕ)) → 0 < length (document_of ys) → 0 < length ys
      some-of [] full = absurd (omega arith)
      some-of (y ∷ ys) full = omega arith

  -- nothing is in front of the first section
  pub seam-first : (bytes : List ℕ) → IsSeam options [] bytes
  seam-first bytes some = sections-one (is_rest options) bytes some

  module _ (old : List (List ℕ)) (from behind : ℕ) (order : from ≤ behind) where
    middle : document_of (drop from old) ≡ document_of (take (behind - from) (drop from old)) ++ document_of (drop behind old)
    middle =
        let e : from + (behind - from) ≡ behind = omega arith in
        sym (document-cut (behind - from) (drop from old)) ∙ ap (λ ys. document_of (take (behind - from) (drop from old)) ++ document_of ys) (drop-drop (behind - from) from old ∙ ap (λ n. drop n old) e)

    module _ (start first last : ℕ) (w : List ℕ) (at : start ≡ length (document_of (take from old))) (before : start ≤ first) (ordered : first ≤ last) (within : last ≤ start + length (document_of (take (behind - from) (drop from old)))) where
      pub edited-bytes : document_of (take from old) ++ ((take (first - start) (document_of (take (behind - from) (drop from old))) ++ (w ++ drop (last - start) (document_of (take (behind - from) (drop from old))))) ++ document_of (drop behind old))
          ≡ take first (document_of old) ++ (w ++ drop last (document_of old))
      edited-bytes =
          let a = document_of (take from old) in
          let m = document_of (take (behind - from) (drop from old)) in
          let z = document_of (drop behind old) in
          let all : a ++ (m ++ z) ≡ document_of old = ap (λ bs. a ++ bs) (sym middle) ∙ document-cut from old in
          let i : length a + (first - start) ≡ first = omega arith in
          let j : length a + (last - start) ≡ last = omega arith in
          edited-middle a m z w (first - start) (last - start) (omega arith) (omega arith)
          ∙ ap (λ n. take n (a ++ (m ++ z)) ++ (w ++ drop (length a + (last - start)) (a ++ (m ++ z)))) i
          ∙ ap (λ n. take first (a ++ (m ++ z)) ++ (w ++ drop n (a ++ (m ++ z)))) j
          ∙ ap (λ bs. take first bs ++ (w ++ drop last bs)) all

      pub edited-seam : are_sections_by (is_rest options) old ≡ true → (from ≡ 0) ⊎ (is_settled (take (first - start) (drop start (document_of old))) ≡ true)
          → IsSeam options (take from old) ((take (first - start) (document_of (take (behind - from) (drop from old))) ++ (w ++ drop (last - start) (document_of (take (behind - from) (drop from old))))) ++ document_of (drop behind old))
      edited-seam cut (inl none) = subst (λ n. IsSeam options (take n old) ((take (first - start) (document_of (take (behind - from) (drop from old))) ++ (w ++ drop (last - start) (document_of (take (behind - from) (drop from old))))) ++ document_of (drop behind old))) (sym none) (seam-first _)
      edited-seam cut (inr settled) =
          let m = document_of (take (behind - from) (drop from old)) in
          let z = document_of (drop behind old) in
          let i = first - start in
          let ys = drop from old in
          let left : drop start (document_of old) ≡ document_of ys = ap (λ n. drop n (document_of old)) at ∙ bytes-left from old in
          let front : take i (document_of ys) ≡ take i m = ap (take i) middle ∙ take-append-le i m z (omega arith) in
          let both : are_sections_by (is_rest options) (take from old ++ ys) ≡ true = subst (λ xs. are_sections_by (is_rest options) xs ≡ true) (sym (take-append-drop from old)) cut in
          let told : is_settled (take i (document_of ys)) ≡ true = ap (λ bs. is_settled (take i bs)) (sym left) ∙ settled in
          let one = seam-settled (take from old) ys i ((w ++ drop (last - start) m) ++ z) both told in
          let same : take i (document_of ys) ++ ((w ++ drop (last - start) m) ++ z) ≡ (take i m ++ (w ++ drop (last - start) m)) ++ z =
          ap (λ bs. bs ++ ((w ++ drop (last - start) m) ++ z)) front ∙ sym (append_assoc (take i m) (w ++ drop (last - start) m) z) in
          subst (λ bs. IsSeam options (take from old) bs) same one
