-- Sections of rows that are moved: the same sections, moved.
use Rattle.std.proofs.Common.{Bool, List, [], ap, arith, cond, drop, false, length, refl, sym, take, true, zero, ℕ, suc, ◌+◌, ◌++◌, ◌==◌, nat_le, nat_lt, not, ◌&&◌, ◌∙◌, ◌∷◌, ◌≡◌}
use Rattle.std.proofs.lemmas.List.{drop-map, length-map, map-append, reverse-append, take-map}
use Rattle.std.specs.List.{flat_map, prefix_len}
use Rattle.std.specs.Prelude.{map, reverse}
use Rattle.std.proofs.lemmas.Bool.Decides.{nat_tests}
use Rattle.markdown_base.specs.declared.configuration.Constructs.{Constructs}
use Rattle.mdinline_labels.specs.declared.definitions.Definition.{Definition}
use Rattle.mdinline_labels.specs.Definitions.{definitions}
use Rattle.mdblock_lines.specs.Containers.{Container, footnote, item, Prefix, quote}
use Rattle.mdblock_containers.specs.Prefixes.{containers_of}
use Rattle.mdblock_containers.specs.Rows.{Row, is_paragraph}
use Rattle.mdblock_containers.specs.Skeleton.{Frame, Part, frames_at, frames_of, further, going_on_at, left_in, list_at, list_begun, list_name, parts, parts_in, standing}
use Rattle.mdblock_definitions.proofs.CutAlike.{undefined-is}
use Rattle.mdblock_definitions.specs.Sections.{Section, before_defined, begins_text, cut, defined_in, defining, in_same, is_in_table, lines, lines_defined, paragraph_of, sections_in, sections_of, sections_of_cut, tabled, text_in, undefined}
use Rattle.mdblock_table_marks.specs.TableCuts.{Cut, before_table, begins_in_table, cut_at_tables, table_lines, tabled as a_table, untabled}
use Rattle.mddocument_parts.specs.DocumentRests.{moved_container, moved_prefix, moved_row}
use Rattle.mddocument_parts.specs.MovedSections.{SectionsMove, moved_frame, moved_part, moved_section}
use Rattle.mddocument_parts.proofs.MovedRows.{containers-moved, none-alike, rest-moved}
use Rattle.mddocument_parts.proofs.Choices.{cond-of}

reverse-mapped : {A B : Type 0} (f : A → B) (xs : List A) → reverse (map f xs) ≡ map f (reverse xs)
reverse-mapped f [] = refl
reverse-mapped f (x ∷ xs) =
    reverse-append (f x ∷ []) (map f xs) ∙ ap (λ l. l ++ f x ∷ []) (reverse-mapped f xs) ∙ sym (map-append f (reverse xs) (x ∷ [])) ∙ ap (map f) (sym (reverse-append (x ∷ []) xs))

flat-mapped : {A B C D : Type 0} (f : A → List B) (g : C → List D) (m : A → C) (n : B → D) → ((x : A) → g (m x) ≡ map n (f x)) → (xs : List A) → flat_map g (map m xs) ≡ map n (flat_map f xs)
flat-mapped f g m n h [] = refl
flat-mapped f g m n h (x ∷ xs) = (λ i. h x i ++ flat-mapped f g m n h xs i) ∙ sym (map-append n (f x) (flat_map f xs))

module _ (l n : ℕ) where
  abbrev mr : Row → Row
  mr row = moved_row l n row

  abbrev mrs : List Row → List Row
  mrs rows = map (moved_row l n) rows

  abbrev mc : Container → Container
  mc c = moved_container l c

  abbrev mf : Frame → Frame
  mf f = moved_frame l f

  less-moved : (a b : ℕ) → nat_lt (a + l) (b + l) ≡ nat_lt a b
  less-moved a b = grind (arith, nat_tests)

  left-moved : (many number : ℕ) (cs : List Container) → left_in many (number + l) (map mc cs) ≡ map mc (left_in many number cs)
  left-moved many number [] = refl
  left-moved many number (quote q ∷ cs) = refl
  left-moved many number (item i ∷ cs) =
      (λ j. cond (nat_le many (length-map cs mc j) && less-moved i.line number j) (left-moved many number cs j) (mc (item i) ∷ map mc cs))
      ∙ cond-of (map mc) (nat_le many (length cs) && nat_lt i.line number) (left_in many number cs) (item i ∷ cs)
  left-moved many number (footnote f ∷ cs) =
      (λ j. cond (nat_le many (length-map cs mc j) && less-moved f.line number j) (left-moved many number cs j) (mc (footnote f) ∷ map mc cs))
      ∙ cond-of (map mc) (nat_le many (length cs) && nat_lt f.line number) (left_in many number cs) (footnote f ∷ cs)

  going-moved : (rows : List Row) → going_on_at (mrs rows) ≡ going_on_at rows
  going-moved [] = refl
  going-moved (row ∷ rows) = (λ i. cond row.is_left_blank (going-moved rows i) (length-map row.went_on (moved_prefix l) i))

  begun-moved : (ps : List Prefix) → list_begun (map (moved_prefix l) ps) ≡ map mf (list_begun ps)
  begun-moved [] = refl
  begun-moved (p ∷ ps) = by p.container
    where
      by : (c : Container) → list_begun ((let q : Prefix = record { container = mc c; size = 0 } in q) ∷ []) ≡ map mf (list_begun ((let q : Prefix = record { container = c; size = 0 } in q) ∷ []))
      by (quote q) = refl
      by (footnote f) = refl
      by (item i) =
          let frame : Frame = record { name = list_name i; line = i.list } in
          (λ j. cond (less-moved i.list i.line j) (mf frame ∷ []) []) ∙ cond-of (map mf) (nat_lt i.list i.line) (frame ∷ []) []

  list-moved : (rows : List Row) → list_at (mrs rows) ≡ map mf (list_at rows)
  list-moved [] = refl
  list-moved (row ∷ rows) = (λ i. cond row.is_left_blank (list-moved rows i) (begun-moved row.begun i)) ∙ cond-of (map mf) row.is_left_blank (list_at rows) (list_begun row.begun)

  standing-moved : (row : Row) (behind : List Row) → standing (mr row) (mrs behind) ≡ map mc (standing row behind)
  standing-moved row behind =
      let all = containers_of row.went_on ++ containers_of row.begun in
      let many = going_on_at behind in
      let whole : containers_of (map (moved_prefix l) row.went_on) ++ containers_of (map (moved_prefix l) row.begun) ≡ map mc all =
      (λ i. containers-moved l row.went_on i ++ containers-moved l row.begun i) ∙ sym (map-append mc (containers_of row.went_on) (containers_of row.begun)) in
      let back : reverse (left_in many (row.number + l) (reverse (map mc all))) ≡ map mc (reverse (left_in many row.number (reverse all))) =
      ap (λ cs. reverse (left_in many (row.number + l) cs)) (reverse-mapped mc all) ∙ ap reverse (left-moved many row.number (reverse all)) ∙ reverse-mapped mc (left_in many row.number (reverse all)) in
      (λ i. let all = whole i in cond row.is_blank (reverse (left_in (going-moved behind i) (row.number + l) (reverse all))) all)
      ∙ (λ i. cond row.is_blank (back i) (map mc all))
      ∙ cond-of (map mc) row.is_blank (reverse (left_in many row.number (reverse all))) all

  frames-of-moved : (c : Container) → frames_of (mc c) ≡ map mf (frames_of c)
  frames-of-moved (quote q) = refl
  frames-of-moved (item i) = refl
  frames-of-moved (footnote f) = refl

  frames-moved : (row : Row) (behind : List Row) → frames_at (mr row) (mrs behind) ≡ map mf (frames_at row behind)
  frames-moved row behind =
      let stands = standing row behind in
      let same = row.is_left_blank && (length stands == going_on_at behind) in
      (λ i. let stands = standing-moved row behind i in flat_map frames_of stands ++ cond (row.is_left_blank && (length stands == going-moved behind i)) (list-moved behind i) [])
      ∙ (λ i. flat-mapped frames_of frames_of mc mf frames-of-moved stands i ++ cond (row.is_left_blank && (length-map stands mc i == going_on_at behind)) (map mf (list_at behind)) [])
      ∙ ap (λ fs. map mf (flat_map frames_of stands) ++ fs) (cond-of (map mf) same (list_at behind) [])
      ∙ sym (map-append mf (flat_map frames_of stands) (cond same (list_at behind) []))

  further-moved : (rows : List Row) → further (mrs rows) ≡ further rows
  further-moved [] = refl
  further-moved (row ∷ rows) = (λ i. let n = further-moved rows i in cond row.is_left_blank (cond (nat_le 1 n) (suc n) 0) (cond row.stays (suc n) 0))

  parts-moved : (bound : ℕ) (rows : List Row) → parts_in bound (mrs rows) ≡ map (moved_part l n) (parts_in bound rows)
  parts-moved zero rows = refl
  parts-moved (suc bound) [] = refl
  parts-moved (suc bound) (row ∷ behind) =
      let k = cond row.is_blank 0 (further behind) in
      let frames = frames-moved row behind in
      let stands = standing-moved row behind in
      let more = take-map (moved_row l n) k behind in
      (λ i. let k = cond row.is_blank 0 (further-moved behind i) in
      (let p : Part = record { first = mr row; more = take k (mrs behind); frames = frames i; stands = stands i } in p) ∷ parts_in bound (drop k (mrs behind)))
      ∙ (λ i. (let p : Part = record { first = mr row; more = more i; frames = map mf (frames_at row behind); stands = map mc (standing row behind) } in p) ∷ parts_in bound (drop-map (moved_row l n) k behind i))
      ∙ ap (λ ps. moved_part l n (record { first = row; more = take k behind; frames = frames_at row behind; stands = standing row behind }) ∷ ps) (parts-moved bound (drop k behind))

  all-parts-moved : (rows : List Row) → parts (mrs rows) ≡ map (moved_part l n) (parts rows)
  all-parts-moved rows = ap (λ b. parts_in b (mrs rows)) (length-map rows (moved_row l n)) ∙ parts-moved (length rows) rows

  -- ---- tables
  abbrev mcut : Cut → Cut
  mcut c = record c { rows = mrs c.rows }

  begins-table-moved : (rows : List Row) → begins_in_table is_in_table (mrs rows) ≡ begins_in_table is_in_table rows
  begins-table-moved [] = refl
  begins-table-moved (row ∷ rows) = refl

  before-table-moved : (rows : List Row) → before_table is_in_table (mrs rows) ≡ before_table is_in_table rows
  before-table-moved [] = refl
  before-table-moved (row ∷ rows) = (λ i. cond (begins-table-moved rows i) 0 (suc (before-table-moved rows i)))

  in-table-moved : (rows : List Row) → prefix_len is_in_table (mrs rows) ≡ prefix_len is_in_table rows
  in-table-moved [] = refl
  in-table-moved (row ∷ rows) = ap (λ k. cond (is_in_table row) (1 + k) 0) (in-table-moved rows)

  table-lines-moved : (rows : List Row) → table_lines is_in_table (mrs rows) ≡ table_lines is_in_table rows
  table-lines-moved [] = refl
  table-lines-moved (row ∷ rows) = ap suc (in-table-moved rows)

  cuts-moved : (bound : ℕ) (rows : List Row) → cut_at_tables is_in_table bound (mrs rows) ≡ map mcut (cut_at_tables is_in_table bound rows)
  cuts-moved zero rows = refl
  cuts-moved (suc bound) [] = refl
  cuts-moved (suc bound) (row ∷ rows) =
      let all = row ∷ rows in
      let k = before_table is_in_table all in
      let behind = drop k all in
      let j = table_lines is_in_table behind in
      (λ i. let k = before-table-moved all i in let behind = drop k (mrs all) in let j = table_lines is_in_table behind in untabled (take k (mrs all)) ∷ a_table (take j behind) ∷ cut_at_tables is_in_table bound (drop j behind))
      ∙ (λ i. let behind = drop-map (moved_row l n) k all i in let j = table_lines is_in_table behind in untabled (take-map (moved_row l n) k all i) ∷ a_table (take j behind) ∷ cut_at_tables is_in_table bound (drop j behind))
      ∙ (λ i. let j = table-lines-moved behind i in untabled (mrs (take k all)) ∷ a_table (take j (mrs behind)) ∷ cut_at_tables is_in_table bound (drop j (mrs behind)))
      ∙ (λ i. untabled (mrs (take k all)) ∷ a_table (take-map (moved_row l n) j behind i) ∷ cut_at_tables is_in_table bound (drop-map (moved_row l n) j behind i))
      ∙ ap (λ cs. untabled (mrs (take k all)) ∷ a_table (mrs (take j behind)) ∷ cs) (cuts-moved bound (drop j behind))

  -- ---- definitions
  abbrev is_text_row : Row → Bool
  is_text_row row = is_paragraph row.leaf

  prefix-moved : (rows : List Row) → prefix_len is_text_row (mrs rows) ≡ prefix_len is_text_row rows
  prefix-moved [] = refl
  prefix-moved (row ∷ rows) = ap (λ n. cond (is_paragraph row.leaf) (1 + n) 0) (prefix-moved rows)

  module _ (on : Constructs) where
    text-in-moved : (rows : List Row) → text_in (mrs rows) ≡ text_in rows
    text-in-moved [] = refl
    text-in-moved (row ∷ rows) = (λ i. rest-moved l on n row i ++ cond (none-alike (map (moved_row l n) rows) rows (length-map rows (moved_row l n)) i) [] (10 ∷ text-in-moved rows i))

    paragraph-moved : (rows : List Row) → text_in (paragraph_of (mrs rows)) ≡ text_in (paragraph_of rows)
    paragraph-moved rows =
        let n2 = prefix_len is_text_row rows in
        ap (λ k. text_in (take k (mrs rows))) (prefix-moved rows) ∙ ap text_in (take-map (moved_row l n) n2 rows) ∙ text-in-moved (take n2 rows)

    defined-moved : (rows : List Row) → defined_in on (mrs rows) ≡ defined_in on rows
    defined-moved rows = ap (λ t. cond on.definition (lines_defined t) 0) (paragraph-moved rows)

    before-moved : (p : Bool) (rows : List Row) → before_defined on p (mrs rows) ≡ before_defined on p rows
    before-moved p [] = refl
    before-moved p (row ∷ rows) = (λ i. cond (not p && nat_le 1 (defined-moved (row ∷ rows) i)) 0 (suc (before-moved (is_paragraph row.leaf) rows i)))

    begins-moved : (rows : List Row) → begins_text (mrs rows) ≡ begins_text rows
    begins-moved [] = refl
    begins-moved (row ∷ rows) = refl

    -- ---- sections
    abbrev mss : List Section → List Section
    mss ss = map (moved_section l n) ss

    plain-moved : (around : Part) (ps : List Part)
        → map (λ p. record { part = p; inside = lines false }) (map (in_same (moved_part l n around)) (map (moved_part l n) ps)) ≡ mss (map (λ p. record { part = p; inside = lines false }) (map (in_same around) ps))
    plain-moved around [] = refl
    plain-moved around (p ∷ ps) = ap (λ ss. moved_section l n (record { part = in_same around p; inside = lines false }) ∷ ss) (plain-moved around ps)

    sections-of-moved : (b : Bool) (around : Part) (ps : List Part) → sections_of b (map (in_same (moved_part l n around)) (map (moved_part l n) ps)) ≡ mss (sections_of b (map (in_same around) ps))
    sections-of-moved b around [] = refl
    sections-of-moved b around (p ∷ ps) = ap (λ ss. moved_section l n (record { part = in_same around p; inside = lines b }) ∷ ss) (plain-moved around ps)

    undefined-moved : (b : Bool) (around : Part) (rows : List Row) → undefined b (moved_part l n around) (mrs rows) ≡ mss (undefined b around rows)
    undefined-moved b around rows =
        undefined-is b (moved_part l n around) (mrs rows)
        ∙ (λ i. sections_of (b && begins-moved rows i) (map (in_same (moved_part l n around)) (all-parts-moved rows i)))
        ∙ sections-of-moved (b && begins_text rows) around (parts rows)
        ∙ ap mss (sym (undefined-is b around rows))

    defining-moved : (ds : List Definition) (around : Part) (rows : List Row) → defining ds (moved_part l n around) (mrs rows) ≡ mss (defining ds around rows)
    defining-moved ds around [] = refl
    defining-moved ds around (row ∷ rows) = refl

    sections-in-moved : (bound : ℕ) (b : Bool) (around : Part) (rows : List Row) → sections_in on bound b (moved_part l n around) (mrs rows) ≡ mss (sections_in on bound b around rows)
    sections-in-moved zero b around rows = refl
    sections-in-moved (suc bound) b around [] = refl
    sections-in-moved (suc bound) b around (row ∷ rows) =
        let all = row ∷ rows in
        let moved = moved_part l n around in
        let k = before_defined on false all in
        let behind = drop k all in
        let d = defined_in on behind in
        let ds = definitions (text_in (paragraph_of behind)) in
        let front = undefined b around (take k all) in
        let middle = defining ds around (take d behind) in
        let last = sections_in on bound true around (drop d behind) in
        (λ i. let k = before-moved false all i in let behind = drop k (mrs all) in
        undefined b moved (take k (mrs all)) ++ (defining (definitions (text_in (paragraph_of behind))) moved (take (defined_in on behind) behind) ++ sections_in on bound true moved (drop (defined_in on behind) behind)))
        ∙ (λ i. let behind = drop-map (moved_row l n) k all i in
        undefined b moved (take-map (moved_row l n) k all i) ++ (defining (definitions (text_in (paragraph_of behind))) moved (take (defined_in on behind) behind) ++ sections_in on bound true moved (drop (defined_in on behind) behind)))
        ∙ (λ i. let d = defined-moved behind i in undefined-moved b around (take k all) i ++ (defining (definitions (paragraph-moved behind i)) moved (take d (mrs behind)) ++ sections_in on bound true moved (drop d (mrs behind))))
        ∙ (λ i. mss front ++ (defining ds moved (take-map (moved_row l n) d behind i) ++ sections_in on bound true moved (drop-map (moved_row l n) d behind i)))
        ∙ (λ i. mss front ++ (defining-moved ds around (take d behind) i ++ sections-in-moved bound true around (drop d behind) i))
        ∙ ap (λ ss. mss front ++ ss) (sym (map-append (moved_section l n) middle last))
        ∙ sym (map-append (moved_section l n) front (middle ++ last))

    tabled-moved : (around : Part) (rows : List Row) → tabled (moved_part l n around) (mrs rows) ≡ mss (tabled around rows)
    tabled-moved around [] = refl
    tabled-moved around (row ∷ rows) = refl

    of-cut-moved : (around : Part) (c : Cut) → sections_of_cut on (moved_part l n around) (mcut c) ≡ mss (sections_of_cut on around c)
    of-cut-moved around c =
        (λ i. cond c.is_table (tabled-moved around c.rows i) (sections_in on (length-map c.rows (moved_row l n) i) false (moved_part l n around) (mrs c.rows)))
        ∙ (λ i. cond c.is_table (mss (tabled around c.rows)) (sections-in-moved (length c.rows) false around c.rows i))
        ∙ cond-of (map (moved_section l n)) c.is_table (tabled around c.rows) (sections_in on (length c.rows) false around c.rows)

    cut-moved : (part : Part) → cut on (moved_part l n part) ≡ mss (cut on part)
    cut-moved part =
        let one : List Section = record { part = part; inside = lines false } ∷ [] in
        let moved = moved_part l n part in
        let all = part.first ∷ part.more in
        let cuts = cut_at_tables is_in_table (suc (length part.more)) all in
        (λ i. cond part.first.is_blank (mss one) (flat_map (sections_of_cut on moved) (cut_at_tables is_in_table (suc (length-map part.more (moved_row l n) i)) (mrs all))))
        ∙ (λ i. cond part.first.is_blank (mss one) (flat_map (sections_of_cut on moved) (cuts-moved (suc (length part.more)) all i)))
        ∙ (λ i. cond part.first.is_blank (mss one) (flat-mapped (sections_of_cut on part) (sections_of_cut on moved) mcut (moved_section l n) (of-cut-moved part) cuts i))
        ∙ cond-of (map (moved_section l n)) part.first.is_blank one (flat_map (sections_of_cut on part) cuts)

pub sections-move : SectionsMove
sections-move on l n rows =
    ap (flat_map (cut on)) (all-parts-moved l n rows) ∙ flat-mapped (cut on) (cut on) (moved_part l n) (moved_section l n) (cut-moved l n on) (parts rows)
