-- What is kept, cut again: the sections' bytes, and parts in their place.
use Rattle.mddocument_editing.proofs.Prelude.{◌≡◌, ℕ, ◌+◌, ◌^◌, ◌-◌, ◌<◌, ◌≤◌, true, List, [], ◌++◌, length, take, drop, get_or, sym, ap, ◌∙◌, subst, arith, mul-le-mul_right, drop-drop, drop-map, length-append, length-drop, length-map, length-take, take-map, IsWithinLimit, is_rest, are_sections_by, document_of, Edit, Kept, Section, IsDivided, edited, AreSectionsOf, IsKept, IsRecut, bytes_of_sections, divided_of, recut_sections, IsSeam, is_settled, ◌⊎◌}
use Rattle.std.proofs.lemmas.List.{append_assoc}
use Rattle.mddocument_editing.proofs.Joined.{document-append}
use Rattle.mddocument_editing.proofs.PutBack.{AreBack, back-all, back-met, back-near, edited-bytes, edited-seam, take-both}

-- the bytes of what is kept are few
pub short-kept : (k : Kept) {ss : List Section} {columns : ℕ} → ss ≡ k.sections.items → columns ≡ k.options.tab_size → 1 ≤ columns → IsKept k → length (document_of (bytes_of_sections ss)) < 2 ^ 64
short-kept k same tab some is =
    let limit = is.divided.limit in
    let few : length (document_of (bytes_of_sections k.sections.items)) < 2 ^ 64 = omega (arith, mul-le-mul_right (length (document_of (bytes_of_sections k.sections.items))) (subst (λ n. 1 ≤ n) tab some), limit) in
    subst (λ xs. length (document_of (bytes_of_sections xs)) < 2 ^ 64) (sym same) few

-- the bytes of sections one behind the other
slice-bytes : (count from : ℕ) (ss : List Section) → bytes_of_sections (take count (drop from ss)) ≡ take count (drop from (bytes_of_sections ss))
slice-bytes count from ss =
    sym (take-map (λ (section : Section). section.part.bytes.items) count (drop from ss)) ∙ ap (take count) (sym (drop-map (λ (section : Section). section.part.bytes.items) from ss))

-- Sections are looked at, from one up to another: a text and their bytes are what is cut
pub record AreLooked (k : Kept) (ss : List Section) (behind end : ℕ) (text next : List ℕ) : Type 0 where
  pub same : ss ≡ k.sections.items
  pub order : behind ≤ end
  pub within : end ≤ length k.sections.items
  pub bytes : next ≡ text ++ document_of (take (end - behind) (drop behind (bytes_of_sections k.sections.items)))

-- how long that is
pub looked-size : {k : Kept} {ss : List Section} {behind end : ℕ} {text next : List ℕ} → AreLooked k ss behind end text next → length next ≡ length text + length (document_of (bytes_of_sections (take (end - behind) (drop behind ss))))
looked-size {k} {ss} {behind} {end} {text} looked =
    ap length looked.bytes
    ∙ length-append text (document_of (take (end - behind) (drop behind (bytes_of_sections k.sections.items))))
    ∙ ap (λ ys. length text + length (document_of ys)) (sym (ap (λ xs. bytes_of_sections (take (end - behind) (drop behind xs))) looked.same ∙ slice-bytes (end - behind) behind k.sections.items))

-- more sections are looked at
pub looked-more : (k : Kept) {ss : List Section} {behind end : ℕ} (step : ℕ) (text : List ℕ) {now next : List ℕ} → ss ≡ k.sections.items → behind ≤ end → end ≤ length k.sections.items → step ≤ length ss - end
    → now ≡ text ++ document_of (take (end - behind) (drop behind (bytes_of_sections k.sections.items))) → next ≡ now ++ document_of (bytes_of_sections (take (end + step - end) (drop end ss))) → AreLooked k ss behind (end + step) text next
looked-more k {ss} {behind} {end} step text {now} same order within few before more =
    let old = bytes_of_sections k.sections.items in
    let left = drop behind old in
    let count = end - behind in
    let e : behind + count ≡ end = omega arith in
    let f : end + step - end ≡ step = omega arith in
    let g : count + step ≡ end + step - behind = omega arith in
    let added : bytes_of_sections (take (end + step - end) (drop end k.sections.items)) ≡ take step (drop count left) =
    ap (λ n. bytes_of_sections (take n (drop end k.sections.items))) f ∙ slice-bytes step end k.sections.items ∙ ap (take step) (ap (λ n. drop n old) (sym e) ∙ sym (drop-drop count behind old)) in
    record {
      same = same;
      order = omega arith;
      within = omega (arith, ap length same, within, few);
      bytes = more
          ∙ ap (λ xs. now ++ document_of (bytes_of_sections (take (end + step - end) (drop end xs)))) same
          ∙ ap (λ ys. now ++ document_of ys) added
          ∙ ap (λ bs. bs ++ document_of (take step (drop count left))) before
          ∙ append_assoc text (document_of (take count left)) (document_of (take step (drop count left)))
          ∙ ap (λ bs. text ++ bs) (sym (document-append (take count left) (take step (drop count left))) ∙ ap document_of (take-both count step left) ∙ ap (λ n. document_of (take n left)) g);
    }

module _ (k : Kept) (from behind : ℕ) (text : List ℕ) (is : IsDivided (divided_of k)) (order : from ≤ behind) (limit : IsWithinLimit k.options.tab_size (document_of (take from (bytes_of_sections k.sections.items)) ++ (text ++ document_of (drop behind (bytes_of_sections k.sections.items)))))
    (seam : IsSeam k.options (take from (bytes_of_sections k.sections.items)) (text ++ document_of (drop behind (bytes_of_sections k.sections.items)))) where
  -- parts are put in the place of sections
  pub record ArePut (end : ℕ) (parts : List (List ℕ)) : Type 0 where
    pub recut : IsRecut k from end parts
    pub bytes : document_of (recut_sections k from end parts) ≡ document_of (take from (bytes_of_sections k.sections.items)) ++ (text ++ document_of (drop behind (bytes_of_sections k.sections.items)))

  put : (end : ℕ) (parts : List (List ℕ)) → from ≤ end → end ≤ length k.sections.items → AreBack k.options (bytes_of_sections k.sections.items) from behind text is.sections seam (recut_sections k from end parts) → ArePut end parts
  put end parts after within b = record {
    recut = record {
      order = after;
      within = within;
      divided = record { limit = subst (λ bs. IsWithinLimit k.options.tab_size bs) (sym b.bytes) limit; sections = b.sections_of };
    };
    bytes = b.bytes;
  }

  -- parts of the text, in front of a section that begins at a rest as before
  pub put-near : {parts : List (List ℕ)} → AreSectionsOf k.options text parts → IsSeam k.options parts (get_or (bytes_of_sections k.sections.items) behind []) → behind < length k.sections.items → ArePut behind parts
  put-near {parts} are near lt =
      let old = bytes_of_sections k.sections.items in
      let few : behind < length old = omega (arith, lt, length-map k.sections.items (λ (section : Section). section.part.bytes.items)) in
      put behind parts order (omega (arith, lt)) (back-near k.options old from behind text is.sections seam parts are near few)

  module _ {ss : List Section} {end : ℕ} {next bytes : List ℕ} {parts : List (List ℕ)} (looked : AreLooked k ss behind end text next) (is_next : bytes ≡ next) (cut : AreSectionsOf k.options bytes parts) where
    are : AreSectionsOf k.options (text ++ document_of (take (end - behind) (drop behind (bytes_of_sections k.sections.items)))) parts
    are = subst (λ bs. AreSectionsOf k.options bs parts) (is_next ∙ looked.bytes) cut

    -- all of them
    pub put-all : end ≡ length ss → ArePut end parts
    put-all last =
        let old = bytes_of_sections k.sections.items in
        let long : length old ≡ length ss = length-map k.sections.items (λ (section : Section). section.part.bytes.items) ∙ ap length (sym looked.same) in
        put end parts (omega (arith, looked.order)) looked.within
        (back-all k.options old from behind text is.sections seam (end - behind) parts are end (omega (arith, long, last)) (omega (arith, long, last, length-drop behind old)))

    -- or up to one that a part meets
    pub put-met : (size some passed : ℕ) {found : List (List ℕ)} → size ≡ length text → take some parts ≡ found → passed < length (take (end - behind) (drop behind ss))
        → length (document_of (take some parts)) ≡ size + length (document_of (take passed (bytes_of_sections (take (end - behind) (drop behind ss))))) → ArePut (behind + passed) found
    put-met size some passed size-is found-is lt met =
        let old = bytes_of_sections k.sections.items in
        let slice : bytes_of_sections (take (end - behind) (drop behind ss)) ≡ take (end - behind) (drop behind old) =
        ap (λ xs. bytes_of_sections (take (end - behind) (drop behind xs))) looked.same ∙ slice-bytes (end - behind) behind k.sections.items in
        let few : passed < length (take (end - behind) (drop behind old)) = omega (arith, lt, ap length slice, length-map (take (end - behind) (drop behind ss)) (λ (section : Section). section.part.bytes.items)) in
        let long : length old ≡ length k.sections.items = length-map k.sections.items (λ (section : Section). section.part.bytes.items) in
        let back = back-met k.options old from behind text is.sections seam (end - behind) parts are some passed few
        (met ∙ ap (λ ys. size + length (document_of (take passed ys))) slice ∙ ap (λ n. n + length (document_of (take passed (take (end - behind) (drop behind old))))) size-is) in
        subst (λ ps. ArePut (behind + passed) ps) found-is
        (put (behind + passed) (take some parts) (omega arith) (omega (arith, few, long, looked.order, looked.within, length-take (end - behind) (drop behind old), length-drop behind old)) back)

-- ---- an edit of what is kept: of its sections, those from one up to another are touched
module _ (k : Kept) (edit : Edit) {ss : List Section} {from behind start at : ℕ} (same : ss ≡ k.sections.items) (order : from ≤ behind) (start-is : start ≡ length (document_of (take from (bytes_of_sections ss))))
    (at-is : at ≡ length (document_of (take behind (bytes_of_sections ss)))) (before : start ≤ edit.from) (ordered : edit.from ≤ edit.to) (reach : edit.to ≤ at) where
  touched-size : edit.to ≤ start + length (document_of (take (behind - from) (drop from (bytes_of_sections ss))))
  touched-size =
      let old = bytes_of_sections ss in
      let e : from + (behind - from) ≡ behind = omega arith in
      let both : take from old ++ take (behind - from) (drop from old) ≡ take behind old = take-both from (behind - from) old ∙ ap (λ n. take n old) e in
      let sizes : length (document_of (take from old)) + length (document_of (take (behind - from) (drop from old))) ≡ length (document_of (take behind old)) =
      sym (length-append (document_of (take from old)) (document_of (take (behind - from) (drop from old)))) ∙ ap length (sym (document-append (take from old) (take (behind - from) (drop from old))) ∙ ap document_of both) in
      omega arith

  pub touched-within : edit.to ≤ start + length (document_of (bytes_of_sections (take (behind - from) (drop from ss))))
  touched-within = subst (λ ys. edit.to ≤ start + length (document_of ys)) (sym (slice-bytes (behind - from) from ss)) touched-size

  module _ {text : List ℕ}
      (text-is : text ≡ take (edit.from - start) (document_of (bytes_of_sections (take (behind - from) (drop from ss)))) ++ (edit.with.now ++ drop (edit.to - start) (document_of (bytes_of_sections (take (behind - from) (drop from ss)))))) where
    text-of : text ≡ take (edit.from - start) (document_of (take (behind - from) (drop from (bytes_of_sections ss)))) ++ (edit.with.now ++ drop (edit.to - start) (document_of (take (behind - from) (drop from (bytes_of_sections ss)))))
    text-of = text-is ∙ ap (λ ys. take (edit.from - start) (document_of ys) ++ (edit.with.now ++ drop (edit.to - start) (document_of ys))) (slice-bytes (behind - from) from ss)

    -- the text in their place edits the document
    pub touched-bytes : document_of (take from (bytes_of_sections k.sections.items)) ++ (text ++ document_of (drop behind (bytes_of_sections k.sections.items))) ≡ edited edit (document_of (bytes_of_sections k.sections.items))
    touched-bytes =
        subst (λ xs. document_of (take from (bytes_of_sections xs)) ++ (text ++ document_of (drop behind (bytes_of_sections xs))) ≡ edited edit (document_of (bytes_of_sections xs))) same
        (ap (λ bs. document_of (take from (bytes_of_sections ss)) ++ (bs ++ document_of (drop behind (bytes_of_sections ss)))) text-of
        ∙ edited-bytes k.options (bytes_of_sections ss) from behind order start edit.from edit.to edit.with.now start-is before ordered touched-size)

    -- and begins at a rest, if the document did
    pub touched-seam : IsKept k → (from ≡ 0) ⊎ (is_settled (take (edit.from - start) (drop start (document_of (bytes_of_sections ss)))) ≡ true)
        → IsSeam k.options (take from (bytes_of_sections k.sections.items)) (text ++ document_of (drop behind (bytes_of_sections k.sections.items)))
    touched-seam is settled =
        let cut : are_sections_by (is_rest k.options) (bytes_of_sections ss) ≡ true = subst (λ xs. are_sections_by (is_rest k.options) (bytes_of_sections xs) ≡ true) (sym same) is.divided.sections.cut in
        subst (λ xs. IsSeam k.options (take from (bytes_of_sections xs)) (text ++ document_of (drop behind (bytes_of_sections xs)))) same
        (subst (λ bs. IsSeam k.options (take from (bytes_of_sections ss)) (bs ++ document_of (drop behind (bytes_of_sections ss)))) (sym text-of)
        (edited-seam k.options (bytes_of_sections ss) from behind order start edit.from edit.to edit.with.now start-is before ordered touched-size cut settled))
