-- Sections and labels of a document that is cut at a rest: those of both parts.
use Rattle.std.proofs.Common.{Bool, List, [], ap, append_assoc, arith, cond, drop, false, length, nat_le, not, refl, subst, suc, sym, take, true, zero, ℕ, ◌&&◌, ◌||◌, ◌++◌, ◌+◌, ◌∙◌, ◌∷◌, ◌≡◌}
use Rattle.std.proofs.Math.Bool.{and-false}
use Rattle.std.proofs.lemmas.Bool.{false≢true}
use Rattle.std.proofs.lemmas.Grind.{flat_map-append}
use Rattle.std.proofs.lemmas.List.{append-nil, drop-map, length-map, map-append, take-map, map-id}
use Rattle.std.specs.List.{AllByRecursion, flat_map, prefix_len, AllZip}
use Rattle.std.specs.Prelude.{is_some, map}
use Rattle.markdown_base.proofs.Common.{and-right}
use Rattle.markdown_base.proofs.Facts.Bools.{and-left}
use Rattle.markdown_base.specs.Virtual.{Seat, virtual}
use Rattle.markdown_base.specs.declared.configuration.Constructs.{Constructs}
use Rattle.mdconstructs_machines.specs.LineEvents.{lines_in}
use Rattle.mdinline_labels.specs.Definitions.{definitions}
use Rattle.mdinline_labels.specs.declared.definitions.Definition.{Definition}
use Rattle.mdblock_leaf_blocks.specs.LeafBlocks.{Line}
use Rattle.mdblock_leaf_blocks.specs.LineKinds.{indent, is_blank_line, underline_rank}
use Rattle.mdblock_containers.proofs.FrameFacts.{none_is}
use Rattle.mdblock_containers.specs.Letters.{lazy_underline}
use Rattle.mdblock_containers.specs.Prefixes.{containers_of}
use Rattle.mdblock_containers.specs.Rows.{Before, Row, closed, has_none, holds_ending, is_paragraph, is_table, open_table, rest_of}
use Rattle.mdblock_containers.specs.Skeleton.{Part, frames_at, further, parts, parts_in, standing}
use Rattle.mdblock_definitions.proofs.Covered.{lines-of-parts}
use Rattle.mdblock_definitions.proofs.CutAlike.{undefined-is}
use Rattle.mdblock_definitions.specs.Rows.{Known, begins_table, is_row_of_table, known_after, row_of, row_without, rows, rows_from}
use Rattle.mdblock_definitions.specs.Sections.{Section, before_defined, begins_text, cut, defined, defined_in, defining, in_same, is_in_table, lines, lines_defined, paragraph_of, sections, sections_in, sections_of, sections_of_cut, table, tabled, text_in, undefined}
use Rattle.mdblock_table_marks.specs.TableCuts.{Cut, before_table, begins_in_table, table_lines}
use Rattle.mdblock_tables.specs.Tables.{is_row}
use Rattle.mdblock_definitions.proofs.FilledTexts.{plain-none, without-none}
use Rattle.mdblock_definitions.proofs.KnownReads.{blank-same, fourth-fails}
use Rattle.mdblock_definitions.specs.Skeleton.{all_rows, labels_in, labels_of_section, letters_of_section, text_begin, written_labels}
use Rattle.mddocument_parts.proofs.DocumentBytes.{counted, document-rows-of-both}
use Rattle.mddocument_parts.proofs.DocumentRests.{anew-same, begins-anew, closed-is, first-row, is-not-blank, not-left, row_new}
use Rattle.mddocument_parts.proofs.MovedBlocks.{text-moved}
use Rattle.mddocument_parts.proofs.MovedRows.{none-alike, rest-moved}
use Rattle.mddocument_parts.proofs.CutsJoined.{cuts}
use Rattle.mddocument_parts.proofs.SectionRows.{Follows, LeftIsBlank, cut_off, going, joined, of_cut, of_cuts, of_definitions, of_lines, of_part, of_parts, of_rows, parts-append}
use Rattle.mddocument_parts.specs.DocumentLabels.{LabelsOfBoth, LettersOfBoth}
use Rattle.mddocument_parts.specs.DocumentRests.{begins_anew, begins_at_document_rest, first_at_document_rest, first_stays, goes_on_behind, is_at_document_rest, is_closed, known_at_start, known_behind, moved_row}
use Rattle.mddocument_parts.specs.Moved.{begins_line, line_endings, moved_line, moved_seat}
use Rattle.mddocument_parts.proofs.Choices.{cond-of}
use Rattle.std.proofs.lemmas.List.Elements.{length_all_zip}

-- ==== What is said of rows that are like others: the same, mapped.
-- ---- what is said of sections is said of their rows
module _ {A : Type 0} (on : Constructs) (h : Bool → Row → List A) (d : List Definition → List Row → List A) (f : Section → List A)
    (of-lines : (b : Bool) (p : Part) → f (record { part = p; inside = lines b }) ≡ h b p.first ++ flat_map (h false) p.more)
    (of-defined : (ds : List Definition) (p : Part) → f (record { part = p; inside = defined ds }) ≡ d ds (all_rows p)) (of-table : (p : Part) → f (record { part = p; inside = table }) ≡ []) where
  plain-are : (around : Part) (ps : List Part) → flat_map f (map (λ p. record { part = p; inside = lines false }) (map (in_same around) ps)) ≡ flat_map (h false) (flat_map all_rows ps)
  plain-are around [] = refl
  plain-are around (p ∷ ps) = (λ i. of-lines false (in_same around p) i ++ plain-are around ps i) ∙ sym (flat_map-append (h false) (all_rows p) (flat_map all_rows ps))

  undefined-are : (b : Bool) (around : Part) (rs : List Row) → flat_map f (undefined b around rs) ≡ of_rows on h d (b && begins_text rs) rs
  undefined-are b around rs = ap (flat_map f) (undefined-is b around rs) ∙ by (b && begins_text rs) (parts rs) ∙ ap (of_rows on h d (b && begins_text rs)) (lines-of-parts (length rs) rs (omega arith))
    where
      by : (c : Bool) (ps : List Part) → flat_map f (sections_of c (map (in_same around) ps)) ≡ of_rows on h d c (flat_map all_rows ps)
      by c [] = refl
      by c (p ∷ ps) =
          (λ i. of-lines c (in_same around p) i ++ plain-are around ps i)
          ∙ append_assoc (h c p.first) (flat_map (h false) p.more) (flat_map (h false) (flat_map all_rows ps))
          ∙ ap (λ l. h c p.first ++ l) (sym (flat_map-append (h false) p.more (flat_map all_rows ps)))

  defining-are : (ds : List Definition) (around : Part) (rs : List Row) → flat_map f (defining ds around rs) ≡ of_definitions on h d ds rs
  defining-are ds around [] = refl
  defining-are ds around (r ∷ rs) = ap (λ l. l ++ []) (of-defined ds (record around { first = r; more = rs })) ∙ append-nil (d ds (r ∷ rs))

  sections-are : (bound : ℕ) (b : Bool) (around : Part) (rs : List Row) → flat_map f (sections_in on bound b around rs) ≡ of_lines on h d bound b rs
  sections-are zero b around rs = refl
  sections-are (suc bound) b around [] = refl
  sections-are (suc bound) b around (r ∷ rs) =
      let all = r ∷ rs in
      let n = before_defined on false all in
      let behind = drop n all in
      let k = defined_in on behind in
      let ds = definitions (text_in (paragraph_of behind)) in
      flat_map-append f (undefined b around (take n all)) (defining ds around (take k behind) ++ sections_in on bound true around (drop k behind))
      ∙ ap (λ l. flat_map f (undefined b around (take n all)) ++ l) (flat_map-append f (defining ds around (take k behind)) (sections_in on bound true around (drop k behind)))
      ∙ (λ i. undefined-are b around (take n all) i ++ (defining-are ds around (take k behind) i ++ sections-are bound true around (drop k behind) i))

  tabled-are : (around : Part) (rs : List Row) → flat_map f (tabled around rs) ≡ []
  tabled-are around [] = refl
  tabled-are around (r ∷ rs) = ap (λ l. l ++ []) (of-table (record around { first = r; more = rs }))

  cut-is : (around : Part) (c : Cut) → flat_map f (sections_of_cut on around c) ≡ of_cut on h d c
  cut-is around c = by c.is_table
    where
      by : (b : Bool) → flat_map f (cond b (tabled around c.rows) (sections_in on (length c.rows) false around c.rows)) ≡ cond b [] (of_lines on h d (length c.rows) false c.rows)
      by true = tabled-are around c.rows
      by false = sections-are (length c.rows) false around c.rows

  cuts-are : (around : Part) (cs : List Cut) → flat_map f (flat_map (sections_of_cut on around) cs) ≡ flat_map (of_cut on h d) cs
  cuts-are around [] = refl
  cuts-are around (c ∷ cs) = flat_map-append f (sections_of_cut on around c) (flat_map (sections_of_cut on around) cs) ∙ (λ i. cut-is around c i ++ cuts-are around cs i)

  part-is : (p : Part) → flat_map f (cut on p) ≡ of_part on h d p.first p.more
  part-is p = by p.first.is_blank
    where
      by : (b : Bool) → flat_map f (cond b (record { part = p; inside = lines false } ∷ []) (flat_map (sections_of_cut on p) (cuts (suc (length p.more)) (p.first ∷ p.more))))
          ≡ cond b (of_rows on h d false (p.first ∷ p.more)) (of_cuts on h d (suc (length p.more)) (p.first ∷ p.more))
      by true = ap (λ l. l ++ []) (of-lines false p) ∙ append-nil (h false p.first ++ flat_map (h false) p.more)
      by false = cuts-are p (cuts (suc (length p.more)) (p.first ∷ p.more))

  parts-are : (bound : ℕ) (rs : List Row) → flat_map f (flat_map (cut on) (parts_in bound rs)) ≡ of_parts on h d bound rs
  parts-are zero rs = refl
  parts-are (suc bound) [] = refl
  parts-are (suc bound) (r ∷ rs) =
      let n = cond r.is_blank 0 (further rs) in
      let p : Part = record { first = r; more = take n rs; frames = frames_at r rs; stands = standing r rs } in
      flat_map-append f (cut on p) (flat_map (cut on) (parts_in bound (drop n rs))) ∙ (λ i. part-is p i ++ parts-are bound (drop n rs) i)

  pub said-of-sections : (rs : List Row) → flat_map f (sections on rs) ≡ of_parts on h d (length rs) rs
  said-of-sections rs = parts-are (length rs) rs

-- ---- rows that are like others
module _ {A : Type 0} (on : Constructs) (h : Bool → Row → List A) (d : List Definition → List Row → List A) (g : A → A) where
  pub record IsLike (r q : Row) : Type 0 where
    pub blank : q.is_blank ≡ r.is_blank
    pub leaf : is_paragraph q.leaf ≡ is_paragraph r.leaf
    pub tabled : is_in_table q ≡ is_in_table r
    pub rest : rest_of q ≡ rest_of r
    pub said : (b : Bool) → h b q ≡ map g (h b r)

  pub record StaysAlike (r q : Row) : Type 0 where
    pub left : q.is_left_blank ≡ r.is_left_blank
    pub stays : q.stays ≡ r.stays

  abbrev pub AreLike : List Row → List Row → Type 0
  AreLike = AllZip IsLike

  abbrev pub StayAlike : List Row → List Row → Type 0
  StayAlike = AllZip StaysAlike

  like-take : (n : ℕ) (rs qs : List Row) → AreLike rs qs → AreLike (take n rs) (take n qs)
  like-take zero rs qs l = tt
  like-take (suc n) [] [] l = tt
  like-take (suc n) [] (q ∷ qs) l = absurd l
  like-take (suc n) (r ∷ rs) [] l = absurd l
  like-take (suc n) (r ∷ rs) (q ∷ qs) l = (l.0, like-take n rs qs l.1)

  all-drop : (R : Row → Row → Type 0) (n : ℕ) (rs qs : List Row) → AllZip R rs qs → AllZip R (drop n rs) (drop n qs)
  all-drop R zero rs qs l = l
  all-drop R (suc n) [] [] l = tt
  all-drop R (suc n) [] (q ∷ qs) l = absurd l
  all-drop R (suc n) (r ∷ rs) [] l = absurd l
  all-drop R (suc n) (r ∷ rs) (q ∷ qs) l = all-drop R n rs qs l.1

  like-length : (rs qs : List Row) → AreLike rs qs → length qs ≡ length rs
  like-length rs qs l = sym (length_all_zip IsLike rs qs l)

  like-prefix : (rs qs : List Row) → AreLike rs qs → prefix_len (λ (row : Row). is_paragraph row.leaf) qs ≡ prefix_len (λ (row : Row). is_paragraph row.leaf) rs
  like-prefix [] [] l = refl
  like-prefix [] (q ∷ qs) l = absurd l
  like-prefix (r ∷ rs) [] l = absurd l
  like-prefix (r ∷ rs) (q ∷ qs) l = (λ i. cond (l.0.leaf i) (1 + like-prefix rs qs l.1 i) 0)

  like-none : (rs qs : List Row) → AreLike rs qs → has_none qs ≡ has_none rs
  like-none rs qs l = none-alike qs rs (like-length rs qs l)

  pub like-text : (rs qs : List Row) → AreLike rs qs → text_in qs ≡ text_in rs
  like-text [] [] l = refl
  like-text [] (q ∷ qs) l = absurd l
  like-text (r ∷ rs) [] l = absurd l
  like-text (r ∷ rs) (q ∷ qs) l = (λ i. l.0.rest i ++ cond (like-none rs qs l.1 i) [] (10 ∷ like-text rs qs l.1 i))

  like-paragraph : (rs qs : List Row) → AreLike rs qs → text_in (paragraph_of qs) ≡ text_in (paragraph_of rs)
  like-paragraph rs qs l =
      let n = prefix_len (λ (row : Row). is_paragraph row.leaf) rs in
      ap (λ n. text_in (take n qs)) (like-prefix rs qs l) ∙ like-text (take n rs) (take n qs) (like-take n rs qs l)

  like-defined : (rs qs : List Row) → AreLike rs qs → defined_in on qs ≡ defined_in on rs
  like-defined rs qs l = ap (λ t. cond on.definition (lines_defined t) 0) (like-paragraph rs qs l)

  like-before : (p : Bool) (rs qs : List Row) → AreLike rs qs → before_defined on p qs ≡ before_defined on p rs
  like-before p [] [] l = refl
  like-before p [] (q ∷ qs) l = absurd l
  like-before p (r ∷ rs) [] l = absurd l
  like-before p (r ∷ rs) (q ∷ qs) l =
      let many = like-defined (r ∷ rs) (q ∷ qs) l in
      let later = ap (λ b. before_defined on b qs) l.0.leaf ∙ like-before (is_paragraph r.leaf) rs qs l.1 in
      (λ i. cond (not p && nat_le 1 (many i)) 0 (suc (later i)))

  like-begins : (rs qs : List Row) → AreLike rs qs → begins_text qs ≡ begins_text rs
  like-begins [] [] l = refl
  like-begins [] (q ∷ qs) l = absurd l
  like-begins (r ∷ rs) [] l = absurd l
  like-begins (r ∷ rs) (q ∷ qs) l = l.0.leaf

  like-said : (rs qs : List Row) → AreLike rs qs → flat_map (h false) qs ≡ map g (flat_map (h false) rs)
  like-said [] [] l = refl
  like-said [] (q ∷ qs) l = absurd l
  like-said (r ∷ rs) [] l = absurd l
  like-said (r ∷ rs) (q ∷ qs) l = (λ i. l.0.said false i ++ like-said rs qs l.1 i) ∙ sym (map-append g (h false r) (flat_map (h false) rs))

  like-rows : (b : Bool) (rs qs : List Row) → AreLike rs qs → of_rows on h d b qs ≡ map g (of_rows on h d b rs)
  like-rows b [] [] l = refl
  like-rows b [] (q ∷ qs) l = absurd l
  like-rows b (r ∷ rs) [] l = absurd l
  like-rows b (r ∷ rs) (q ∷ qs) l = (λ i. l.0.said b i ++ like-said rs qs l.1 i) ∙ sym (map-append g (h b r) (flat_map (h false) rs))

  module _ (d-said : (ds : List Definition) (rs qs : List Row) → AreLike rs qs → d ds qs ≡ map g (d ds rs)) where
    like-definitions : (ds : List Definition) (rs qs : List Row) → AreLike rs qs → of_definitions on h d ds qs ≡ map g (of_definitions on h d ds rs)
    like-definitions ds [] [] l = refl
    like-definitions ds [] (q ∷ qs) l = absurd l
    like-definitions ds (r ∷ rs) [] l = absurd l
    like-definitions ds (r ∷ rs) (q ∷ qs) l = d-said ds (r ∷ rs) (q ∷ qs) l

    like-lines : (bound : ℕ) (b : Bool) (rs qs : List Row) → AreLike rs qs → of_lines on h d bound b qs ≡ map g (of_lines on h d bound b rs)
    like-lines zero b rs qs l = refl
    like-lines (suc bound) b [] [] l = refl
    like-lines (suc bound) b [] (q ∷ qs) l = absurd l
    like-lines (suc bound) b (r ∷ rs) [] l = absurd l
    like-lines (suc bound) b (r ∷ rs) (q ∷ qs) l =
        let all = r ∷ rs in
        let others = q ∷ qs in
        let n = before_defined on false all in
        let x = take n all in
        let y = take n others in
        let behind = drop n all in
        let after = drop n others in
        let back = all-drop IsLike n all others l in
        let k = defined_in on behind in
        let ds = definitions (text_in (paragraph_of behind)) in
        let begins = like-begins x y (like-take n all others l) in
        let text = like-paragraph behind after back in
        let many = like-defined behind after back in
        let front = of_rows on h d (b && begins_text x) x in
        let middle = of_definitions on h d ds (take k behind) in
        let last = of_lines on h d bound true (drop k behind) in
        (λ i. let n = like-before false all others l i in let after = drop n others in
        of_rows on h d (b && begins_text (take n others)) (take n others) ++ (of_definitions on h d (definitions (text_in (paragraph_of after))) (take (defined_in on after) after) ++ of_lines on h d bound true (drop (defined_in on after) after)))
        ∙ (λ i. of_rows on h d (b && begins i) y ++ (of_definitions on h d (definitions (text i)) (take (many i) after) ++ of_lines on h d bound true (drop (many i) after)))
        ∙ (λ i. like-rows (b && begins_text x) x y (like-take n all others l) i
        ++ (like-definitions ds (take k behind) (take k after) (like-take k behind after back) i ++ like-lines bound true (drop k behind) (drop k after) (all-drop IsLike k behind after back) i))
        ∙ ap (λ a. map g front ++ a) (sym (map-append g middle last))
        ∙ sym (map-append g front (middle ++ last))

    -- they are cut alike at tables
    like-table : (rs qs : List Row) → AreLike rs qs → begins_in_table is_in_table qs ≡ begins_in_table is_in_table rs
    like-table [] [] l = refl
    like-table [] (q ∷ qs) l = absurd l
    like-table (r ∷ rs) [] l = absurd l
    like-table (r ∷ rs) (q ∷ qs) l = l.0.tabled

    like-before-table : (rs qs : List Row) → AreLike rs qs → before_table is_in_table qs ≡ before_table is_in_table rs
    like-before-table [] [] l = refl
    like-before-table [] (q ∷ qs) l = absurd l
    like-before-table (r ∷ rs) [] l = absurd l
    like-before-table (r ∷ rs) (q ∷ qs) l = (λ i. cond (like-table rs qs l.1 i) 0 (suc (like-before-table rs qs l.1 i)))

    like-in-table : (rs qs : List Row) → AreLike rs qs → prefix_len is_in_table qs ≡ prefix_len is_in_table rs
    like-in-table [] [] l = refl
    like-in-table [] (q ∷ qs) l = absurd l
    like-in-table (r ∷ rs) [] l = absurd l
    like-in-table (r ∷ rs) (q ∷ qs) l = (λ i. cond (l.0.tabled i) (1 + like-in-table rs qs l.1 i) 0)

    like-table-lines : (rs qs : List Row) → AreLike rs qs → table_lines is_in_table qs ≡ table_lines is_in_table rs
    like-table-lines [] [] l = refl
    like-table-lines [] (q ∷ qs) l = absurd l
    like-table-lines (r ∷ rs) [] l = absurd l
    like-table-lines (r ∷ rs) (q ∷ qs) l = ap suc (like-in-table rs qs l.1)

    like-cuts : (bound : ℕ) (rs qs : List Row) → AreLike rs qs → of_cuts on h d bound qs ≡ map g (of_cuts on h d bound rs)
    like-cuts zero rs qs l = refl
    like-cuts (suc bound) [] [] l = refl
    like-cuts (suc bound) [] (q ∷ qs) l = absurd l
    like-cuts (suc bound) (r ∷ rs) [] l = absurd l
    like-cuts (suc bound) (r ∷ rs) (q ∷ qs) l =
        let all = r ∷ rs in
        let others = q ∷ qs in
        let n = before_table is_in_table all in
        let behind = drop n all in
        let after = drop n others in
        let back = all-drop IsLike n all others l in
        let k = table_lines is_in_table behind in
        let front = of_lines on h d (length (take n all)) false (take n all) in
        let last = of_cuts on h d bound (drop k behind) in
        let alike = like-take n all others l in
        (λ i. let n = like-before-table all others l i in let after = drop n others in of_lines on h d (length (take n others)) false (take n others) ++ of_cuts on h d bound (drop (table_lines is_in_table after) after))
        ∙ (λ i. of_lines on h d (like-length (take n all) (take n others) alike i) false (take n others) ++ of_cuts on h d bound (drop (like-table-lines behind after back i) after))
        ∙ (λ i. like-lines (length (take n all)) false (take n all) (take n others) alike i ++ like-cuts bound (drop k behind) (drop k after) (all-drop IsLike k behind after back) i)
        ∙ sym (map-append g front last)

    like-part : (r q : Row) (rs qs : List Row) → IsLike r q → AreLike rs qs → of_part on h d q qs ≡ map g (of_part on h d r rs)
    like-part r q rs qs here l =
        (λ i. cond (here.blank i) (like-rows false (r ∷ rs) (q ∷ qs) (here, l) i) (((ap (λ n. of_cuts on h d (suc n) (q ∷ qs)) (like-length rs qs l)) ∙ like-cuts (suc (length rs)) (r ∷ rs) (q ∷ qs) (here, l)) i))
        ∙ cond-of (map g) r.is_blank (of_rows on h d false (r ∷ rs)) (of_cuts on h d (suc (length rs)) (r ∷ rs))

    like-further : (rs qs : List Row) → StayAlike rs qs → further qs ≡ further rs
    like-further [] [] s = refl
    like-further [] (q ∷ qs) s = absurd s
    like-further (r ∷ rs) [] s = absurd s
    like-further (r ∷ rs) (q ∷ qs) s = (λ i. let n = like-further rs qs s.1 i in cond (s.0.left i) (cond (nat_le 1 n) (suc n) 0) (cond (s.0.stays i) (suc n) 0))

    like-step : (bound : ℕ) (r q : Row) (rs qs : List Row) → IsLike r q → AreLike rs qs → StayAlike rs qs → ((n : ℕ) → of_parts on h d bound (drop n qs) ≡ map g (of_parts on h d bound (drop n rs))) → of_parts on h d (suc bound) (q ∷ qs) ≡ map g (of_parts on h d (suc bound) (r ∷ rs))
    like-step bound r q rs qs here l s more =
        let n = cond r.is_blank 0 (further rs) in
        (λ i. let n = cond (here.blank i) 0 (like-further rs qs s i) in of_part on h d q (take n qs) ++ of_parts on h d bound (drop n qs))
        ∙ (λ i. like-part r q (take n rs) (take n qs) here (like-take n rs qs l) i ++ more n i)
        ∙ sym (map-append g (of_part on h d r (take n rs)) (of_parts on h d bound (drop n rs)))

    pub like-parts : (bound : ℕ) (rs qs : List Row) → AreLike rs qs → StayAlike rs qs → of_parts on h d bound qs ≡ map g (of_parts on h d bound rs)
    like-parts zero rs qs l s = refl
    like-parts (suc bound) [] [] l s = refl
    like-parts (suc bound) [] (q ∷ qs) l s = absurd l
    like-parts (suc bound) (r ∷ rs) [] l s = absurd l
    like-parts (suc bound) (r ∷ rs) (q ∷ qs) l s = like-step bound r q rs qs l.0 l.1 s.1 (λ n. like-parts bound (drop n rs) (drop n qs) (all-drop IsLike n rs qs l.1) (all-drop StaysAlike n rs qs s.1))

    -- of the first of them it does not matter whether it goes on with a stretch
    pub like-first : (bound : ℕ) (r q : Row) (rs qs : List Row) → IsLike r q → AreLike rs qs → StayAlike rs qs → of_parts on h d (suc bound) (q ∷ qs) ≡ map g (of_parts on h d (suc bound) (r ∷ rs))
    like-first bound r q rs qs here l s = like-step bound r q rs qs here l s (λ n. like-parts bound (drop n rs) (drop n qs) (all-drop IsLike n rs qs l) (all-drop StaysAlike n rs qs s))

-- ==== What is said of the sections of a document, row by row, is what is said of those of its parts.
module _ (on : Constructs) (not-blank : (k : Known) (n : ℕ) (line : Line) → is_paragraph (row_of on k n line).leaf ≡ true → is_blank_line (rest_of (row_of on k n line)) ≡ false) where
  -- ---- rows that are left blank
  pub left-is-blank : (k : Known) (n : ℕ) (line : Line) → LeftIsBlank (row_of on k n line)
  left-is-blank k n line left =
      let row = row_of on k n line in
      let blank : row.is_blank ≡ true = and-left row.is_blank (has_none row.begun && not (row.stays && holds_ending k.before.leaf)) left in
      (blank, by (is_paragraph row.leaf) refl blank, ap is_table (blank-same on k n line blank) ∙ plain-none on k.before n line)
    where
      by : (b : Bool) → is_paragraph (row_of on k n line).leaf ≡ b → (row_of on k n line).is_blank ≡ true → b ≡ false
      by true e blank = let both : true ≡ false = sym blank ∙ not-blank k n line e in absurd (cc)
      by false e blank = refl

  pub rows-left : (k : Known) (n : ℕ) (ls : List Line) → AllByRecursion LeftIsBlank (rows_from on k n ls)
  rows-left k n [] = tt
  rows-left k n (line ∷ ls) = (left-is-blank k n line, rows-left (known_after on k (row_of on k n line)) (suc n) ls)

  -- ---- a paragraph is open behind a row
  pub leaf-behind : (k : Known) (n : ℕ) (line : Line) → is_paragraph (known_after on k (row_of on k n line)).before.leaf ≡ is_paragraph (row_of on k n line).leaf
  leaf-behind k n line = by row.is_left_blank refl row.is_lazy
    where
      row : Row
      row = row_of on k n line

      by : (left : Bool) → row.is_left_blank ≡ left → (lazy : Bool)
          → let all = containers_of row.went_on ++ containers_of row.begun in
          is_paragraph (let b : Before = cond left (record k.before { depth = length row.went_on; leaf = closed }) (cond lazy (record k.before { leaf = row.leaf }) (record { stack = all; depth = length all; leaf = row.leaf })) in b).leaf ≡ is_paragraph row.leaf
      by true e lazy = sym (left-is-blank k n line e).1
      by false e true = refl
      by false e false = refl

  pub joined-known : (k : Known) (n : ℕ) (ls : List Line) (y : List Row) (p : Bool) → p ≡ is_paragraph k.before.leaf → joined p (rows_from on k n ls) y ≡ (is_paragraph (known_behind on k n ls).before.leaf && begins_text y)
  joined-known k n [] y p e = ap (λ b. b && begins_text y) e
  joined-known k n (line ∷ ls) y p e = joined-known (known_after on k (row_of on k n line)) (suc n) ls y (is_paragraph (row_of on k n line).leaf) (sym (leaf-behind k n line))

  -- ---- the row of a line that begins anew
  pub record Starts (row : Row) : Type 0 where
    pub left : row.is_left_blank ≡ false
    pub full : row.stays ≡ true → row.is_blank ≡ false

  pub starts : (k : Known) (n : ℕ) (line : Line) → begins_anew on k n line ≡ true → Starts (row_of on k n line)
  starts k n line h =
      let row = row_of on k n line in
      let begins = begins-anew on n line k h in
      let full = is-not-blank on n line k h in
      let ps = (row_new on n line row.begun row.stays).begun in
      let is : row ≡ row_new on n line row.begun row.stays = begins.row ∙ ap (λ ps. row_new on n line ps row.stays) (sym (ap (λ (r : Row). r.begun) begins.row)) in
      record {
        left = ap (λ (r : Row). r.is_left_blank) is ∙ not-left on n line row.begun row.stays full;
        full = λ stays.
            let none : row.begun ≡ [] = none_is row.begun (and-left (has_none row.begun) _ stays) in
            ap (λ (r : Row). r.is_blank) is ∙ ap (λ ps. (row_new on n line ps row.stays).is_blank) none ∙ full;
      }

  -- a line that is in no table is as without tables
  pub own-row : (k : Known) (n : ℕ) (line : Line) → is_in_table (row_of on k n line) ≡ false → row_of on k n line ≡ row_without on k n line
  own-row k n line e = by (is_row_of_table on k own) e
    where
      own : Row
      own = row_without on k n line

      by : (b : Bool) → is_table (cond b open_table own.leaf) ≡ false → record own { leaf = cond b open_table own.leaf } ≡ own
      by true e = absurd (false≢true (sym e))
      by false e = refl

  -- one that goes on with no stretch is in none
  pub stay-untabled : (k : Known) (n : ℕ) (line : Line) → (row_of on k n line).stays ≡ false → is_in_table (row_of on k n line) ≡ false
  stay-untabled k n line e =
      let row = row_without on k n line in
      ap (λ s. is_table (cond (on.gfm_table && (s && (is_paragraph row.leaf && ((is_paragraph k.before.leaf && begins_table on k row) || (is_table k.before.leaf && is_row (rest_of row)))))) open_table row.leaf)) e
      ∙ ap (λ b. is_table (cond b open_table row.leaf)) (and-false on.gfm_table) ∙ without-none on k n line

  -- where no leaf block is open before it, a line is in no table
  pub anew-untabled : (k : Known) (n : ℕ) (line : Line) → k.before.leaf ≡ closed → is_in_table (row_of on k n line) ≡ false
  anew-untabled k n line shut =
      let row = row_without on k n line in
      ap (λ leaf. is_table (cond (on.gfm_table && (row.stays && (is_paragraph row.leaf && ((is_paragraph leaf && begins_table on k row) || (is_table leaf && is_row (rest_of row)))))) open_table row.leaf)) shut
      ∙ ap (λ b. is_table (cond b open_table row.leaf)) (fourth-fails on.gfm_table row.stays (is_paragraph row.leaf)) ∙ without-none on k n line

  follows : (q : Row) (qs : List Row) → Starts q → Follows q qs
  follows q qs s = by q.stays refl
    where
      by : (b : Bool) → q.stays ≡ b → Follows q qs
      by true e = going (s.full e) (λ i. cond (s.left i) (cond (nat_le 1 (further qs)) (suc (further qs)) 0) (cond (e i) (suc (further qs)) 0))
      by false e = cut_off (λ i. cond (s.left i) (cond (nat_le 1 (further qs)) (suc (further qs)) 0) (cond (e i) (suc (further qs)) 0))

  -- ---- what is said of both
  module _ {A : Type 0} (h : Bool → Row → List A) (d : List Definition → List Row → List A) (f : Section → List A)
      (of-lines : (b : Bool) (p : Part) → f (record { part = p; inside = lines b }) ≡ h b p.first ++ flat_map (h false) p.more)
      (of-defined : (ds : List Definition) (p : Part) → f (record { part = p; inside = defined ds }) ≡ d ds (all_rows p)) (of-table : (p : Part) → f (record { part = p; inside = table }) ≡ [])
      (bytes : ℕ) (g : A → A)
      (said-moved : (m : ℕ) (stays : Bool) (r : Row) (b : Bool) → h b (moved_row m bytes (record r { stays = stays })) ≡ map g (h b r))
      (d-said : (ds : List Definition) (rs qs : List Row) → AreLike on h d g rs qs → d ds qs ≡ map g (d ds rs)) where
    abbrev said : List Row → List A
    said rs = flat_map f (sections on rs)

    like-moved : (m : ℕ) (stays : Bool) (r : Row) → IsLike on h d g r (moved_row m bytes (record r { stays = stays }))
    like-moved m stays r = record { blank = refl; leaf = refl; tabled = refl; rest = rest-moved m on bytes (record r { stays = stays }); said = said-moved m stays r }

    are-moved : (m : ℕ) (rs : List Row) → AreLike on h d g rs (map (moved_row m bytes) rs)
    are-moved m [] = tt
    are-moved m (r ∷ rs) = (like-moved m r.stays r, are-moved m rs)

    stay-moved : (m : ℕ) (rs : List Row) → StayAlike on h d g rs (map (moved_row m bytes) rs)
    stay-moved m [] = tt
    stay-moved m (r ∷ rs) = (record { left = refl; stays = refl }, stay-moved m rs)

    said-of-lines : (before : List Line) (line : Line) (behind : List Line) → is_at_document_rest on before line ≡ true
        → let n = length before in let stays = goes_on_behind on before (line ∷ behind) in
        said (rows on before ++ map (moved_row n bytes) (first_stays stays (rows on (line ∷ behind)))) ≡ said (rows on before) ++ map g (said (rows on (line ∷ behind)))
    said-of-lines before line behind rest =
        let n = length before in
        let start = known_at_start on in
        let k = known_behind on start 1 before in
        let stays = goes_on_behind on before (line ∷ behind) in
        let x = rows on before in
        let r = row_of on start 1 line in
        let rs = rows_from on (known_after on start r) 2 behind in
        let q = moved_row n bytes (record r { stays = stays }) in
        let qs = map (moved_row n bytes) rs in
        let row = first-row on n bytes k (suc n) line (omega arith) rest in
        let there = anew-same on k (suc n) (moved_line n bytes line) line (text-moved n bytes line) ∙ rest in
        let begins = subst Starts row (starts k (suc n) (moved_line n bytes line) there) in
        let shut : k.before.leaf ≡ closed = closed-is k.before.leaf (and-left (is_closed k.before.leaf) _ rest) in
        let plain : is_in_table q ≡ false = anew-untabled start 1 line refl in
        let apart : joined false x (q ∷ qs) ≡ false = joined-known start 1 before (q ∷ qs) false refl ∙ ap (λ leaf. is_paragraph leaf && begins_text (q ∷ qs)) shut in
        let size : length qs ≡ length rs = length-map rs (moved_row n bytes) in
        said-of-sections on h d f of-lines of-defined of-table (x ++ (q ∷ qs))
        ∙ parts-append on h d (length (x ++ (q ∷ qs))) (length x) (length (q ∷ qs)) x q qs (omega arith) (omega arith) (omega arith) (rows-left start 1 before) (follows q qs begins) plain apart
        ∙ (λ i. sym (said-of-sections on h d f of-lines of-defined of-table x) i ++ like-first on h d g d-said (length qs) r q rs qs (like-moved n stays r) (are-moved n rs) (stay-moved n rs) i)
        ∙ ap (λ m. said x ++ map g (of_parts on h d (suc m) (r ∷ rs))) size
        ∙ ap (λ l. said x ++ map g l) (sym (said-of-sections on h d f of-lines of-defined of-table (r ∷ rs)))

    said-behind : (n : ℕ) (before behind : List Line) → n ≡ length before → first_at_document_rest on before behind ≡ true
        → said (rows on before ++ map (moved_row n bytes) (first_stays (goes_on_behind on before behind) (rows on behind))) ≡ said (rows on before) ++ map g (said (rows on behind))
    said-behind n before [] e rest = ap said (append-nil (rows on before)) ∙ sym (append-nil (said (rows on before)))
    said-behind n before (line ∷ behind) e rest =
        subst (λ m. said (rows on before ++ map (moved_row m bytes) (first_stays (goes_on_behind on before (line ∷ behind)) (rows on (line ∷ behind)))) ≡ said (rows on before) ++ map g (said (rows on (line ∷ behind)))) (sym e)
        (said-of-lines before line behind rest)

    pub said-of-both : (t : ℕ) (a b : List ℕ) → bytes ≡ length a → begins_at_document_rest on t a b ≡ true
        → said (rows on (lines_in (virtual t (a ++ b)))) ≡ said (rows on (lines_in (virtual t a))) ++ map g (said (rows on (lines_in (virtual t b))))
    said-of-both t a b e rest =
        let one = lines_in (virtual t a) in
        let two = lines_in (virtual t b) in
        let begins = and-left (begins_line b a) (first_at_document_rest on one two) rest in
        ap said (document-rows-of-both on t a b rest)
        ∙ ap (λ m. said (rows on one ++ map (moved_row (line_endings a) m) (first_stays (goes_on_behind on one two) (rows on two)))) (sym e)
        ∙ said-behind (line_endings a) one two (counted t a b begins) (and-right (begins_line b a) (first_at_document_rest on one two) rest)

-- ==== The labels of a document are those of its parts, and so are the bytes of which leaf blocks are read as of letters.
-- no paragraph is open behind a blank line
abbrev pub BlankEndsParagraphs : Type 0
BlankEndsParagraphs = (on : Constructs) (k : Known) (n : ℕ) (line : Line) → is_paragraph (row_of on k n line).leaf ≡ true → is_blank_line (rest_of (row_of on k n line)) ≡ false

-- ---- labels
no-labels : Bool → Row → List (List ℕ)
no-labels b r = []

labels-of : List Definition → List Row → List (List ℕ)
labels-of ds rs = labels_in ds (text_in rs)

none-said : (rs : List Row) → [] ≡ flat_map (no-labels false) rs
unfolding no-labels
none-said [] = refl
none-said (r ∷ rs) = none-said rs

pub labels-of-both : BlankEndsParagraphs → LabelsOfBoth
unfolding no-labels labels-of
labels-of-both ends on t a b rest =
    said-of-both on (ends on) no-labels labels-of labels_of_section (λ b p. none-said p.more) (λ ds p. refl) (λ p. refl) (length a) (λ x. x) (λ m stays r b. refl)
    (λ ds rs qs l. ap (labels_in ds) (like-text on no-labels labels-of (λ x. x) rs qs l) ∙ sym (map-id (labels_in ds (text_in rs)))) t a b refl rest
    ∙ ap (λ l. written_labels on (virtual t a) ++ l) (map-id (written_labels on (virtual t b)))

-- ---- letters
letters-by : Constructs → Bool → Row → List ℕ
letters-by on b r = cond b (text_begin r) (lazy_underline on r)

no-definitions : List Definition → List Row → List ℕ
no-definitions ds rs = []

module _ (m n : ℕ) where
  indices-moved : (seats : List Seat) → map (λ (s : Seat). s.point.index) (map (moved_seat m n) seats) ≡ map (λ i. i + n) (map (λ (s : Seat). s.point.index) seats)
  indices-moved [] = refl
  indices-moved (s ∷ seats) = ap (λ l. (s.point.index + n) ∷ l) (indices-moved seats)

  begin-moved : (k : ℕ) (line : Line) → map (λ (s : Seat). s.point.index) (take 1 (drop k (moved_line m n line))) ≡ map (λ i. i + n) (map (λ (s : Seat). s.point.index) (take 1 (drop k line)))
  begin-moved k line =
      ap (λ l. map (λ (s : Seat). s.point.index) (take 1 l)) (drop-map (moved_seat m n) k line)
      ∙ ap (λ l. map (λ (s : Seat). s.point.index) l) (take-map (moved_seat m n) 1 (drop k line))
      ∙ indices-moved (take 1 (drop k line))

  letter-moved : (on : Constructs) (r : Row) (b : Bool) → letters-by on b (moved_row m n r) ≡ map (λ i. i + n) (letters-by on b r)
  unfolding letters-by
  letter-moved on r b =
      let first : List ℕ → List ℕ = λ rest. map (λ (s : Seat). s.point.index) (take 1 (drop (r.columns + indent rest) (moved_line m n r.line))) in
      let here = begin-moved (r.columns + indent (rest_of r)) r.line in
      let up : List ℕ → List ℕ = map (λ i. i + n) in
      let begin = map (λ (s : Seat). s.point.index) (take 1 (drop (r.columns + indent (rest_of r)) r.line)) in
      let lazy = r.is_lazy && is_some (underline_rank on (rest_of r)) in
      (λ i. let rest = rest-moved m on n r i in cond b (first rest) (cond (r.is_lazy && is_some (underline_rank on rest)) (first rest) []))
      ∙ (λ i. cond b (here i) (cond (r.is_lazy && is_some (underline_rank on (rest_of r))) (here i) []))
      ∙ ap (cond b (up begin)) (cond-of up lazy begin []) ∙ cond-of up b begin (cond lazy begin [])

pub letters-of-both : BlankEndsParagraphs → LettersOfBoth
unfolding letters-by no-definitions
letters-of-both ends on t a b rest =
    said-of-both on (ends on) (letters-by on) no-definitions (letters_of_section on) (λ b p. refl) (λ ds p. refl) (λ p. refl) (length a) (λ i. i + length a)
    (λ m stays r b. letter-moved m (length a) on (record r { stays = stays }) b) (λ ds rs qs l. refl) t a b refl rest
