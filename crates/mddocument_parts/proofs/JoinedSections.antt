-- Parts and sections of rows behind others: those of both, but for the last stretch of the first and the first of the second, where the second go on with it.
use Rattle.std.proofs.Common.{Bool, List, [], ap, append_assoc, arith, cond, drop, false, inl, inr, length, length-append, length-drop, nat_le, refl, subst, suc, sym, take, true, zero, ℕ, ◌&&◌, ◌++◌, ◌+◌, ◌<◌, ◌||◌, ◌∙◌, ◌∷◌, ◌≡◌, ◌≤◌}
use Rattle.std.proofs.Math.Seq.{drop-append-add, drop-length, take-append-add, take-length, drop-nil, take-nil}
use Rattle.std.proofs.lemmas.List.{append-nil, drop-append-le, length-take-le, map-append, take-append-drop, take-append-le}
use Rattle.std.proofs.lemmas.List.Sums.{prefix_len-le-length}
use Rattle.std.proofs.lemmas.Grind.{flat_map-append}
use Rattle.std.specs.List.{AllByRecursion, flat_map}
use Rattle.std.specs.Prelude.{map}
use Rattle.markdown_base.proofs.Common.{every-drop}
use Rattle.markdown_base.specs.declared.configuration.Constructs.{Constructs}
use Rattle.mdinline_labels.specs.Definitions.{definitions}
use Rattle.mdblock_lines.specs.Containers.{Container}
use Rattle.mdblock_containers.proofs.RestLemmas.{further_few}
use Rattle.mdblock_containers.specs.Rows.{Row, is_paragraph}
use Rattle.mdblock_containers.specs.Skeleton.{Frame, Part, frames_at, further, parts_in, standing}
use Rattle.mdblock_definitions.proofs.Covered.{fewer-left}
use Rattle.mdblock_definitions.specs.BlankLines as blank_lines
use Rattle.mdblock_definitions.specs.Sections.{Section, before_defined, begins_text, defined_in, defining, in_same, is_in_table, lines, paragraph_of, sections_in, sections_of, sections_of_cut, text_in, undefined}
use Rattle.mdblock_table_marks.proofs.TableCuts.{cuts_need_tables}
use Rattle.mdblock_table_marks.specs.TableCuts.{Cut, before_table, table_lines, tabled, untabled}
use Rattle.mddocument_parts.proofs.CutsJoined.{CutsJoin, behind_table, cut_seam, cuts, cuts-fuel, cuts-join, cuts_apart}
use Rattle.mdblock_definitions.specs.Skeleton.{all_rows}
use Rattle.mddocument_parts.proofs.SectionRows.{AllLeft, Apart, Follows, FurtherApart, LeftIsBlank, before-apart, cut_off, defined-apart, defined-within, further-apart, further-cut, going, joined, joined-begin, joined-behind, joined-behind-table, joined-drop, left-behind, paragraph-apart, text-taken}
use Rattle.mddocument_parts.specs.JoinedStretches.{AllStay, Begin, IsBlankPart, IsSame, SectionsJoin, Stretch, firsts, joined_part, plain_section, plain_sections, section_seam, sections_apart}

-- ==== Parts of rows behind others. Where the second go on with a stretch with which the first end, it is one part of the whole: in the parts it is two, and blank lines between them.
further-stay : (rs : List Row) → AllStay (take (further rs) rs)
further-stay [] = tt
further-stay (r ∷ rs) = by r.is_left_blank refl r.stays refl (nat_le 1 (further rs)) (further-stay rs)
  where
    by : (left : Bool) → r.is_left_blank ≡ left → (stays : Bool) → r.stays ≡ stays → (some : Bool) → AllStay (take (further rs) rs) → AllStay (take (cond left (cond some (suc (further rs)) 0) (cond stays (suc (further rs)) 0)) (r ∷ rs))
    by true e stays f true h = (ap (λ b. b || r.stays) e, h)
    by true e stays f false h = tt
    by false e true f some h = ((λ i. e i || f i), h)
    by false e false f some h = tt

module _ (F : Row → List Row → List Frame) (S : Row → List Row → List Container) where
  -- parts, by what tells the spans in which a line stands, and its containers
  abbrev pub parts_by : (bound : ℕ) → List Row → List Part
  parts_by zero rows = []
  parts_by (suc bound) [] = []
  parts_by (suc bound) (row ∷ behind) =
      let n = cond row.is_blank 0 (further behind) in
      record { first = row; more = take n behind; frames = F row behind; stands = S row behind } ∷ parts_by bound (drop n behind)

-- parts of one blank line
pub lefts : (ps : List Part) → AllByRecursion IsBlankPart ps → AllLeft (firsts ps)
lefts [] h = tt
lefts (p ∷ ps) h = (h.0.left, lefts ps h.1)

-- those of a document
pub real-parts : (b : ℕ) (rows : List Row) → parts_in b rows ≡ parts_by frames_at standing b rows
real-parts zero rows = refl
real-parts (suc b) [] = refl
real-parts (suc b) (q ∷ rows) =
    let n = cond q.is_blank 0 (further rows) in
    let p : Part = record { first = q; more = take n rows; frames = frames_at q rows; stands = standing q rows } in
    ap (λ ps. p ∷ ps) (real-parts b (drop n rows))

module _ (F : Row → List Row → List Frame) (S : Row → List Row → List Container) where
  -- the last stretch of the first rows, and the first of the second, are one
  pub record Seam (x : List Row) (r : Row) (rs : List Row) (whole first second : List Part) : Type 0 where
    pub it : Stretch r
    pub front : List Part
    pub back : List Part
    pub above : List Row
    pub above_is : above ≡ flat_map all_rows front
    pub bound : ℕ
    pub goes : 1 ≤ further (r ∷ rs)
    pub rows_are : x ≡ above ++ (it.begin.first ∷ (it.begin.more ++ firsts it.blanks))
    pub parts_are : parts_by F S bound (it.begin.first ∷ (it.begin.more ++ firsts it.blanks)) ≡ it.begin ∷ it.blanks
    pub end_rows : Begin it.end.more rs
    pub whole_is : whole ≡ front ++ (joined_part it.begin it.blanks it.end ∷ back)
    pub first_is : first ≡ front ++ (it.begin ∷ it.blanks)
    pub second_is : second ≡ it.end ∷ back

  pub data Joins (x : List Row) (r : Row) (rs : List Row) (whole first second : List Part) : Type 0 where
    apart : whole ≡ first ++ second → Joins x r rs whole first second
    seam : Seam x r rs whole first second → Joins x r rs whole first second

  -- more bound changes nothing
  pub parts-by-fuel : (b c : ℕ) (rows : List Row) → length rows ≤ b → length rows ≤ c → parts_by F S b rows ≡ parts_by F S c rows
  parts-by-fuel zero zero rows l m = refl
  parts-by-fuel zero (suc c) [] l m = refl
  parts-by-fuel zero (suc c) (r ∷ rs) l m = absurd (omega (arith, l))
  parts-by-fuel (suc b) zero [] l m = refl
  parts-by-fuel (suc b) zero (r ∷ rs) l m = absurd (omega (arith, m))
  parts-by-fuel (suc b) (suc c) [] l m = refl
  parts-by-fuel (suc b) (suc c) (r ∷ rs) l m =
      let n = cond r.is_blank 0 (further rs) in
      let few = length-drop n rs in
      let p : Part = record { first = r; more = take n rs; frames = F r rs; stands = S r rs } in
      ap (λ ps. p ∷ ps) (parts-by-fuel b c (drop n rs) (omega (arith, l, few)) (omega (arith, m, few)))

  -- rows that are left blank are parts of their own
  pub left-parts-by : (b : ℕ) (y : List Row) → length y ≤ b → AllLeft y → AllByRecursion LeftIsBlank y → (firsts (parts_by F S b y) ≡ y) × AllByRecursion IsBlankPart (parts_by F S b y)
  left-parts-by zero [] m l k = (refl, tt)
  left-parts-by zero (r ∷ y) m l k = absurd (omega (arith, m))
  left-parts-by (suc b) [] m l k = (refl, tt)
  left-parts-by (suc b) (r ∷ y) m l k =
      let full = (k.0 l.0).0 in
      let rest = left-parts-by b y (omega (arith, m)) l.1 k.1 in
      let none : drop (cond r.is_blank 0 (further y)) y ≡ y = ap (λ c. drop (cond c 0 (further y)) y) full in (
        ap (λ z. r ∷ firsts (parts_by F S b z)) none ∙ ap (λ z. r ∷ z) rest.0,
        (record { blank = full; left = l.0; alone = ap (λ c. take (cond c 0 (further y)) y) full }, subst (λ z. AllByRecursion IsBlankPart (parts_by F S b z)) (sym none) rest.1),
      )

  module _ (r : Row) (rs : List Row) where
    abbrev y : List Row
    y = r ∷ rs

    joins-more : (p : Part) (x : List Row) (w f s : List Part) → Joins x r rs w f s → Joins (all_rows p ++ x) r rs (p ∷ w) (p ∷ f) s
    joins-more p x w f s (apart e) = apart (ap (λ l. p ∷ l) e)
    joins-more p x w f s (seam h) =
        seam (record {
          it = h.it;
          front = p ∷ h.front;
          back = h.back;
          above = all_rows p ++ h.above;
          above_is = ap (λ l. all_rows p ++ l) h.above_is;
          bound = h.bound;
          goes = h.goes;
          rows_are = ap (λ l. all_rows p ++ l) h.rows_are ∙ sym (append_assoc (all_rows p) h.above (h.it.begin.first ∷ (h.it.begin.more ++ firsts h.it.blanks)));
          parts_are = h.parts_are;
          end_rows = h.end_rows;
          whole_is = ap (λ l. p ∷ l) h.whole_is;
          first_is = ap (λ l. p ∷ l) h.first_is;
          second_is = h.second_is;
        })

    pub joins-as : (x x2 : List Row) (w w2 f f2 s s2 : List Part) → x ≡ x2 → w ≡ w2 → f ≡ f2 → s ≡ s2 → Joins x r rs w f s → Joins x2 r rs w2 f2 s2
    joins-as x x2 w w2 f f2 s s2 ex ew ef es h = rw⁻¹ (ex, ew, ef, es) h

    module _ (f-same : (row : Row) (x : List Row) → F row (x ++ y) ≡ F row x) (s-same : (row : Row) (x : List Row) → S row (x ++ y) ≡ S row x) where
      pub parts-join : (c b b2 : ℕ) (x : List Row) → length (x ++ y) ≤ c → length x ≤ b → length y ≤ b2 → AllByRecursion LeftIsBlank x → Follows r rs → Joins x r rs (parts_by F S c (x ++ y)) (parts_by F S b x) (parts_by F S b2 y)
      parts-join c b b2 [] l m m2 blank follows = apart (parts-by-fuel c b2 y l m2 ∙ ap (λ ps. ps ++ parts_by F S b2 y) (sym (none b)))
        where
          none : (b : ℕ) → parts_by F S b [] ≡ []
          none zero = refl
          none (suc b) = refl
      parts-join zero b b2 (q ∷ x) l m m2 blank follows = absurd (omega (arith, l))
      parts-join (suc c) zero b2 (q ∷ x) l m m2 blank follows = absurd (omega (arith, m))
      parts-join (suc c) (suc b) zero (q ∷ x) l m m2 blank follows = absurd (omega (arith, m2))
      parts-join (suc c) (suc b) (suc b2) (q ∷ x) l m m2 blank follows =
          let size = length-append x y in
          by (way follows) q.is_blank refl
          (λ n within. let z = drop n x in
          let size2 = length-append z y in
          let few = length-drop n x in
          parts-join c b (suc b2) z (omega (arith, l, size, size2, few)) (omega (arith, m, few)) m2 (every-drop LeftIsBlank n x blank.1) follows)
        where
          Goal : Type 0
          Goal = Joins (q ∷ x) r rs (parts_by F S (suc c) (q ∷ (x ++ y))) (parts_by F S (suc b) (q ∷ x)) (parts_by F S (suc b2) y)

          Later : Type 0
          Later = (n : ℕ) → n ≤ length x → Joins (drop n x) r rs (parts_by F S c (drop n x ++ y)) (parts_by F S b (drop n x)) (parts_by F S (suc b2) y)

          way : Follows r rs → FurtherApart x y
          way (cut_off k) = inl (further-cut x y k, further_few x)
          way (going full k) = further-apart x y (omega (arith, k))

          -- the part of the first line does not go on to the second rows
          near : (n : ℕ) → cond q.is_blank 0 (further (x ++ y)) ≡ n → cond q.is_blank 0 (further x) ≡ n → n ≤ length x → Later → Goal
          near n f g within later =
              let part : Part = record { first = q; more = take n x; frames = F q x; stands = S q x } in
              let whole : parts_by F S (suc c) (q ∷ (x ++ y)) ≡ part ∷ parts_by F S c (drop n x ++ y) =
              (λ i. (let p : Part = record { first = q; more = take (f i) (x ++ y); frames = f-same q x i; stands = s-same q x i } in p) ∷ parts_by F S c (drop (f i) (x ++ y)))
              ∙ (λ i. (let p : Part = record { first = q; more = take-append-le n x y within i; frames = F q x; stands = S q x } in p) ∷ parts_by F S c (drop-append-le n x y within i)) in
              let first : parts_by F S (suc b) (q ∷ x) ≡ part ∷ parts_by F S b (drop n x) = (λ i. (let p : Part = record { first = q; more = take (g i) x; frames = F q x; stands = S q x } in p) ∷ parts_by F S b (drop (g i) x)) in
              joins-as ((q ∷ take n x) ++ drop n x) (q ∷ x) (part ∷ parts_by F S c (drop n x ++ y)) (parts_by F S (suc c) (q ∷ (x ++ y))) (part ∷ parts_by F S b (drop n x)) (parts_by F S (suc b) (q ∷ x)) (parts_by F S (suc b2) y) (parts_by F S (suc b2) y)
              (ap (λ l. q ∷ l) (take-append-drop n x)) (sym whole) (sym first) refl
              (joins-more part (drop n x) (parts_by F S c (drop n x ++ y)) (parts_by F S b (drop n x)) (parts_by F S (suc b2) y) (later n within))

          -- it does
          far : q.is_blank ≡ false → r.is_blank ≡ false → further (r ∷ rs) ≡ suc (further rs) → further (x ++ y) ≡ length x + further y → AllStay x → Goal
          far full some more all stay =
              let n = further x in
              let k = further rs in
              let z = drop n x in
              let few : length z ≤ b = let size = length-drop n x in omega (arith, size, m) in
              let left = left-parts-by b z few (left-behind x stay) (every-drop LeftIsBlank n x blank.1) in
              let begin : Part = record { first = q; more = take n x; frames = F q x; stands = S q x } in
              let blanks = parts_by F S b z in
              let end : Part = record { first = r; more = take k rs; frames = F r rs; stands = S r rs } in
              let back = parts_by F S b2 (drop k rs) in
              let halves : take n x ++ firsts blanks ≡ x = ap (λ l. take n x ++ l) left.0 ∙ take-append-drop n x in
              let reach : cond q.is_blank 0 (further (x ++ y)) ≡ length x + suc k = ap (λ b. cond b 0 (further (x ++ y))) full ∙ all ∙ ap (λ m. length x + m) more in
              let size = length-append x y in
              let last = length-drop k rs in
              let fuel : parts_by F S c (drop k rs) ≡ back = parts-by-fuel c b2 (drop k rs) (omega (arith, l, size, last)) (omega (arith, m2, last)) in
              let whole : parts_by F S (suc c) (q ∷ (x ++ y)) ≡ joined_part begin blanks end ∷ back =
              (λ i. (let p : Part = record { first = q; more = take (reach i) (x ++ y); frames = f-same q x i; stands = s-same q x i } in p) ∷ parts_by F S c (drop (reach i) (x ++ y)))
              ∙ (λ i. (let p : Part = record { first = q; more = take-append-add x y (suc k) i; frames = F q x; stands = S q x } in p) ∷ parts_by F S c (drop-append-add x y (suc k) i))
              ∙ (λ i. (let p : Part = record { first = q; more = sym halves i ++ (r ∷ take k rs); frames = F q x; stands = S q x } in p) ∷ fuel i) in
              let first : parts_by F S (suc b) (q ∷ x) ≡ begin ∷ blanks = (λ i. let n = cond (full i) 0 (further x) in (let p : Part = record { first = q; more = take n x; frames = F q x; stands = S q x } in p) ∷ parts_by F S b (drop n x)) in
              let second : parts_by F S (suc b2) y ≡ end ∷ back = (λ i. let n = cond (some i) 0 (further rs) in (let p : Part = record { first = r; more = take n rs; frames = F r rs; stands = S r rs } in p) ∷ parts_by F S b2 (drop n rs)) in
              seam (record {
                it = record { begin = begin; blanks = blanks; end = end; full = full; stay = subst AllStay (sym halves) stay; reach = ap further halves ∙ sym (length-take-le n x (further_few x)); are_blank = left.1; end_is = refl; end_stay = further-stay rs };
                front = [];
                back = back;
                above = [];
                above_is = refl;
                bound = suc b;
                goes = omega (arith, more);
                rows_are = ap (λ l. q ∷ l) (sym halves);
                parts_are = ap (λ l. parts_by F S (suc b) (q ∷ l)) halves ∙ first;
                end_rows = record { left = drop k rs; is = sym (take-append-drop k rs) };
                whole_is = whole;
                first_is = first;
                second_is = second;
              })

          by : FurtherApart x y → (b3 : Bool) → q.is_blank ≡ b3 → Later → Goal
          by k true f later = near 0 (ap (λ b. cond b 0 (further (x ++ y))) f) (ap (λ b. cond b 0 (further x)) f) (omega arith) later
          by (inl k) false f later = near (further x) (ap (λ b. cond b 0 (further (x ++ y))) f ∙ k.0) (ap (λ b. cond b 0 (further x)) f) k.1 later
          by (inr k) false f later = last follows
            where
              last : Follows r rs → Goal
              last (cut_off g) = let some = k.1.1 in absurd (omega (arith, some, g))
              last (going some more) = far f some more k.0 k.1.0

-- ==== Sections of rows behind others, of one part. Where the second go on with a stretch with which the first end, it is one section of the whole: in the parts it is two, and blank lines between them.
-- ---- rows that are left blank, or that go on with a stretch
pub data Behind (r : Row) (rs : List Row) : Type 0 where
  left : AllLeft (r ∷ rs) → Behind r rs
  stays : r.is_blank ≡ false → r.is_left_blank ≡ false → r.stays ≡ true → Behind r rs

pub left-further : (ys : List Row) → AllLeft ys → further ys ≡ 0
left-further [] h = refl
left-further (r ∷ ys) h = let none = left-further ys h.1 in (λ i. cond (h.0 i) (cond (nat_le 1 (none i)) (suc (none i)) 0) (cond r.stays (suc (none i)) 0))

pub follows : (r : Row) (rs : List Row) → Behind r rs → Follows r rs
follows r rs (left h) = cut_off (left-further (r ∷ rs) h)
follows r rs (stays full h s) = going full (λ i. cond (h i) (cond (nat_le 1 (further rs)) (suc (further rs)) 0) (cond (s i) (suc (further rs)) 0))

front-left : (n : ℕ) (ys : List Row) → AllLeft ys → AllLeft (take n ys)
front-left zero ys h = tt
front-left (suc n) [] h = tt
front-left (suc n) (r ∷ ys) h = (h.0, front-left n ys h.1)

front-behind : (n : ℕ) (r : Row) (rs : List Row) → Behind r rs → Behind r (take n rs)
front-behind n r rs (left h) = left (front-left (suc n) (r ∷ rs) h)
front-behind n r rs (stays full h s) = stays full h s

module _ (Place : Bool → List Row → Type 0) (around : Part) (r : Row) (rs : List Row) where
  pub joins-front : (ss : List Section) (xs x : List Row) (w f s : List Section) → SectionsJoin Place around x r rs w f s → SectionsJoin Place around (xs ++ x) r rs (ss ++ w) (ss ++ f) s
  joins-front ss xs x w f s (sections_apart e) = sections_apart (ap (λ l. ss ++ l) e ∙ sym (append_assoc ss f s))
  joins-front ss xs x w f s (section_seam h) =
      let it = h.it in
      section_seam (record {
        it = it;
        within = h.within;
        front = ss ++ h.front;
        back = h.back;
        above = xs ++ h.above;
        rows_are = ap (λ l. xs ++ l) h.rows_are ∙ sym (append_assoc xs h.above (it.begin.first ∷ (it.begin.more ++ firsts it.blanks)));
        end_rows = h.end_rows;
        whole_is = ap (λ l. ss ++ l) h.whole_is ∙ sym (append_assoc ss h.front (record { part = joined_part it.begin it.blanks it.end; inside = lines h.within.is_behind } ∷ h.back));
        first_is = ap (λ l. ss ++ l) h.first_is ∙ sym (append_assoc ss h.front (record { part = it.begin; inside = lines h.within.is_behind } ∷ plain_sections it.blanks));
        second_is = h.second_is;
      })

  pub joins-back : (x : List Row) (w f s ss : List Section) → SectionsJoin Place around x r rs w f s → SectionsJoin Place around x r rs (w ++ ss) f (s ++ ss)
  joins-back x w f s ss (sections_apart e) = sections_apart (ap (λ l. l ++ ss) e ∙ append_assoc f s ss)
  joins-back x w f s ss (section_seam h) =
      let it = h.it in
      section_seam (record {
        it = it;
        within = h.within;
        front = h.front;
        back = h.back ++ ss;
        above = h.above;
        rows_are = h.rows_are;
        end_rows = h.end_rows;
        whole_is = ap (λ l. l ++ ss) h.whole_is ∙ append_assoc h.front (record { part = joined_part it.begin it.blanks it.end; inside = lines h.within.is_behind } ∷ h.back) ss;
        first_is = h.first_is;
        second_is = ap (λ l. l ++ ss) h.second_is;
      })

  pub joins-same : (x x2 : List Row) (w w2 f f2 s s2 : List Section) → x ≡ x2 → w ≡ w2 → f ≡ f2 → s ≡ s2 → SectionsJoin Place around x r rs w f s → SectionsJoin Place around x2 r rs w2 f2 s2
  joins-same x x2 w w2 f f2 s s2 ex ew ef es h = rw⁻¹ (ex, ew, ef, es) h

-- rows with more behind them
pub joins-longer : (Place : Bool → List Row → Type 0) (around : Part) (r : Row) (z rs later : List Row) → rs ≡ z ++ later → (x : List Row) (w f s : List Section) → SectionsJoin Place around x r z w f s → SectionsJoin Place around x r rs w f s
joins-longer Place around r z rs later e x w f s (sections_apart k) = sections_apart k
joins-longer Place around r z rs later e x w f s (section_seam h) =
    section_seam (record {
      it = h.it;
      within = h.within;
      front = h.front;
      back = h.back;
      above = h.above;
      rows_are = h.rows_are;
      end_rows = record { left = h.end_rows.left ++ later; is = e ∙ ap (λ l. l ++ later) h.end_rows.is ∙ append_assoc h.it.end.more h.end_rows.left later };
      whole_is = h.whole_is;
      first_is = h.first_is;
      second_is = h.second_is;
    })

-- ---- parts in the spans of another
module _ (around : Part) where
  abbrev pub its_frames : Row → List Row → List Frame
  its_frames row rows = around.frames

  abbrev pub its_stands : Row → List Row → List Container
  its_stands row rows = around.stands

  abbrev pub its_parts : (bound : ℕ) → List Row → List Part
  its_parts = parts_by its_frames its_stands

  pub same-parts : (bound : ℕ) (before : List Frame) (rs : List Row) → map (in_same around) (blank_lines.parts_in bound before rs) ≡ its_parts bound rs
  same-parts zero before rs = refl
  same-parts (suc bound) before [] = refl
  same-parts (suc bound) before (r ∷ rs) =
      let n = cond r.is_blank 0 (further rs) in
      let p : Part = record { first = r; more = take n rs; frames = around.frames; stands = around.stands } in
      ap (λ ps. p ∷ ps) (same-parts bound (blank_lines.frames_at before r rs) (drop n rs))

  pub all-same : (bound : ℕ) (rs : List Row) → AllByRecursion (IsSame around) (its_parts bound rs)
  all-same zero rs = tt
  all-same (suc bound) [] = tt
  all-same (suc bound) (r ∷ rs) = (record { frames = refl; stands = refl }, all-same bound (drop (cond r.is_blank 0 (further rs)) rs))

  part-of : (fs : List Part) (p : Part) (bs : List Part) → AllByRecursion (IsSame around) (fs ++ (p ∷ bs)) → IsSame around p × AllByRecursion (IsSame around) bs
  part-of [] p bs h = h
  part-of (f ∷ fs) p bs h = part-of fs p bs h.1

  flagged-append : (b : Bool) (p : Part) (ps qs : List Part) → sections_of b ((p ∷ ps) ++ qs) ≡ sections_of b (p ∷ ps) ++ plain_sections qs
  flagged-append b p ps qs = ap (λ l. (let s : Section = record { part = p; inside = lines b } in s) ∷ l) (map-append plain_section ps qs)

  plain-flag : (ps : List Part) → sections_of false ps ≡ plain_sections ps
  plain-flag [] = refl
  plain-flag (p ∷ ps) = refl

  -- the last of parts before others, flagged if it is the first
  abbrev pub last_flag : Bool → List Part → Bool
  last_flag b [] = b
  last_flag b (p ∷ ps) = false

  flag-at : (b : Bool) (fs : List Part) (p : Part) (bs : List Part) → sections_of b (fs ++ (p ∷ bs)) ≡ sections_of b fs ++ ((let s : Section = record { part = p; inside = lines (last_flag b fs) } in s) ∷ plain_sections bs)
  flag-at b [] p bs = refl
  flag-at b (f ∷ fs) p bs = ap (λ l. (let s : Section = record { part = f; inside = lines b } in s) ∷ l) (map-append plain_section fs (p ∷ bs))

  -- what is said of the last stretch in rows, if it is not blank
  abbrev pub Placed : (Place : Bool → List Row → Type 0) → (b : Bool) → Row → List Row → Type 0
  Placed Place b q x =
      (front : List Part) (begin : Part) (blanks : List Part) → its_parts (length (q ∷ x)) (q ∷ x) ≡ front ++ (begin ∷ blanks) → q ∷ x ≡ flat_map all_rows front ++ (begin.first ∷ (begin.more ++ firsts blanks))
      → begin.first.is_blank ≡ false → AllStay (begin.more ++ firsts blanks) → Place (last_flag (b && is_paragraph q.leaf) front) (begin.first ∷ (begin.more ++ firsts blanks))

  -- parts of rows that are not empty
  some-parts : (b : ℕ) (q : Row) (x : List Row) → length (q ∷ x) ≤ b → its_parts b (q ∷ x) ≡ [] → ⊥
  some-parts zero q x l e = omega (arith, l)
  some-parts (suc b) q x l e = absurd (cc)

  module _ (Place : Bool → List Row → Type 0) (r : Row) (rs : List Row) (tail : Behind r rs) where
    some-behind : 1 ≤ further (r ∷ rs) → r.is_left_blank ≡ false
    some-behind h = by tail
      where
        by : Behind r rs → r.is_left_blank ≡ false
        by (left k) = let none = left-further (r ∷ rs) k in absurd (omega (arith, none, h))
        by (stays full k s) = k

    of-parts : (b : Bool) (x : List Row) (w f s : List Part) → AllByRecursion (IsSame around) f → AllByRecursion (IsSame around) s → (f ≡ [] → ⊥)
        → ((h : Seam its_frames its_stands x r rs w f s) → Place (last_flag b h.front) (h.it.begin.first ∷ (h.it.begin.more ++ firsts h.it.blanks))) → Joins its_frames its_stands x r rs w f s
        → SectionsJoin Place around x r rs (sections_of b w) (sections_of b f) (sections_of false s)
    of-parts b x w [] s hf hs full place j = absurd (full refl)
    of-parts b x w (f ∷ fs) s hf hs full place (apart e) =
        sections_apart (ap (sections_of b) e ∙ flagged-append b f fs s ∙ ap (λ l. sections_of b (f ∷ fs) ++ l) (sym (plain-flag s)))
    of-parts b x w (f ∷ fs) s hf hs full place (seam h) =
        let first = part-of h.front h.it.begin h.it.blanks (subst (AllByRecursion (IsSame around)) h.first_is hf) in
        let last : AllByRecursion (IsSame around) (h.it.end ∷ h.back) = subst (AllByRecursion (IsSame around)) h.second_is hs in
        section_seam (record {
          it = h.it;
          within = record { is_behind = last_flag b h.front; going_on = some-behind h.goes; begin_same = first.0; blanks_same = first.1; end_same = last.0; place = place h };
          front = sections_of b h.front;
          back = plain_sections h.back;
          above = h.above;
          rows_are = h.rows_are;
          end_rows = h.end_rows;
          whole_is = ap (sections_of b) h.whole_is ∙ flag-at b h.front (joined_part h.it.begin h.it.blanks h.it.end) h.back;
          first_is = ap (sections_of b) h.first_is ∙ flag-at b h.front h.it.begin h.it.blanks;
          second_is = ap (sections_of false) h.second_is;
        })

  -- lines without definitions, and so many of lines behind them
  module _ (Place : Bool → List Row → Type 0) (r : Row) (rs : List Row) (tail : Behind r rs) where
    undefined-join : (b : Bool) (q : Row) (x : List Row) (m : ℕ) → AllByRecursion LeftIsBlank (q ∷ x) → Placed Place b q x
        → SectionsJoin Place around (q ∷ x) r rs (undefined b around (q ∷ x ++ take m (r ∷ rs))) (undefined b around (q ∷ x)) (undefined false around (take m (r ∷ rs)))
    undefined-join b q x zero blank place = sections_apart (ap (undefined b around) (append-nil (q ∷ x)) ∙ sym (append-nil (undefined b around (q ∷ x))))
    undefined-join b q x (suc m) blank place =
        let z = take m rs in
        let all = q ∷ x in
        let ys = r ∷ z in
        let flag = b && is_paragraph q.leaf in
        let behind = front-behind m r rs tail in
        let c = length (all ++ ys) in
        joins-same Place around r rs all all (sections_of flag (its_parts c (all ++ ys))) (undefined b around (all ++ ys)) (sections_of flag (its_parts (length all) all)) (undefined b around all) (sections_of false (its_parts (length ys) ys)) (undefined false around ys)
        refl (ap (sections_of flag) (sym (same-parts c [] (all ++ ys)))) (ap (sections_of flag) (sym (same-parts (length all) [] all))) (ap (sections_of false) (sym (same-parts (length ys) [] ys)))
        (joins-longer Place around r z rs (drop m rs) (sym (take-append-drop m rs)) all (sections_of flag (its_parts c (all ++ ys))) (sections_of flag (its_parts (length all) all)) (sections_of false (its_parts (length ys) ys))
        (of-parts Place r z behind flag all (its_parts c (all ++ ys)) (its_parts (length all) all) (its_parts (length ys) ys) (all-same (length all) all) (all-same (length ys) ys) (some-parts (length all) q x (omega arith))
        (λ h. place h.front h.it.begin h.it.blanks h.first_is (h.rows_are ∙ ap (λ l. l ++ (h.it.begin.first ∷ (h.it.begin.more ++ firsts h.it.blanks))) h.above_is) h.it.full h.it.stay)
        (parts-join its_frames its_stands r z (λ row x. refl) (λ row x. refl) c (length all) (length ys) all (omega arith) (omega arith) (omega arith) blank (follows r z behind))))

-- ---- lines of a part, cut before and behind definitions
module _ (on : Constructs) (around : Part) where
  -- what comes behind the definitions that begin behind so many lines
  abbrev from_cut : (bound : ℕ) → (behind : List Row) → List Section
  from_cut bound behind = defining (definitions (text_in (paragraph_of behind))) around (take (defined_in on behind) behind) ++ sections_in on bound true around (drop (defined_in on behind) behind)

  abbrev cut_at : (bound : ℕ) → Bool → (n : ℕ) → List Row → List Section
  cut_at bound p n all = undefined p around (take n all) ++ from_cut bound (drop n all)

  -- more bound changes nothing
  pub sections-fuel : (b c : ℕ) (p : Bool) (rows : List Row) → length rows ≤ b → length rows ≤ c → sections_in on b p around rows ≡ sections_in on c p around rows
  sections-fuel zero zero p rows l m = refl
  sections-fuel zero (suc c) p [] l m = refl
  sections-fuel zero (suc c) p (r ∷ rs) l m = absurd (omega (arith, l))
  sections-fuel (suc b) zero p [] l m = refl
  sections-fuel (suc b) zero p (r ∷ rs) l m = absurd (omega (arith, m))
  sections-fuel (suc b) (suc c) p [] l m = refl
  sections-fuel (suc b) (suc c) p (r ∷ rs) l m =
      let all = r ∷ rs in
      let n = before_defined on false all in
      let behind = drop n all in
      let k = defined_in on behind in
      ap (λ ss. undefined p around (take n all) ++ (defining (definitions (text_in (paragraph_of behind))) around (take k behind) ++ ss)) (sections-fuel b c true (drop k behind) (fewer-left on r rs b l) (fewer-left on r rs c m))

  pub sections-none : (b : ℕ) (p : Bool) → sections_in on b p around [] ≡ []
  sections-none zero p = refl
  sections-none (suc b) p = refl

  -- lines that do not begin with text: whether definitions come before them does not matter
  sections-any : (bound : ℕ) (p : Bool) (ys : List Row) → (p && begins_text ys) ≡ false → sections_in on bound p around ys ≡ sections_in on bound false around ys
  sections-any zero p ys e = refl
  sections-any (suc bound) p [] e = refl
  sections-any (suc bound) p (r ∷ ys) e =
      let all = r ∷ ys in
      let n = before_defined on false all in
      ap (λ flag. sections_of flag (map (in_same around) (blank_lines.parts (take n all))) ++ from_cut bound (drop n all)) (text-taken p n all e)

  from-none : (b : ℕ) → from_cut b [] ≡ []
  from-none b = let n = defined_in on [] in (λ i. defining (definitions (text_in (paragraph_of []))) around (take-nil n i) ++ sections_in on b true around (drop-nil n i)) ∙ sections-none b true

  -- lines in which no definitions begin
  pub sections-plain : (b : ℕ) (p : Bool) (q : Row) (x : List Row) → before_defined on false (q ∷ x) ≡ length (q ∷ x) → sections_in on (suc b) p around (q ∷ x) ≡ undefined p around (q ∷ x)
  sections-plain b p q x whole =
      let all = q ∷ x in
      ap (λ n. cut_at b p n all) whole
      ∙ (λ i. undefined p around (take-length all i) ++ from_cut b (drop-length all i))
      ∙ ap (λ l. undefined p around all ++ l) (from-none b)
      ∙ append-nil (undefined p around all)

  -- lines of a part, cut at tables
  abbrev pub cuts_in : (bound : ℕ) → List Row → List Section
  cuts_in bound rows = flat_map (sections_of_cut on around) (cuts bound rows)

  pub cuts-in-fuel : (b c : ℕ) (rows : List Row) → length rows ≤ b → length rows ≤ c → cuts_in b rows ≡ cuts_in c rows
  cuts-in-fuel b c rows l m = ap (flat_map (sections_of_cut on around)) (cuts-fuel b c rows l m)

  -- lines without a table
  pub cuts-plain : (b : ℕ) (q : Row) (x : List Row) → AllByRecursion (λ (row : Row). is_in_table row ≡ false) (q ∷ x) → cuts_in (suc b) (q ∷ x) ≡ sections_in on (length (q ∷ x)) false around (q ∷ x)
  cuts-plain b q x none = ap (flat_map (sections_of_cut on around)) (cuts_need_tables is_in_table b q x none) ∙ append-nil (sections_in on (length (q ∷ x)) false around (q ∷ x))

  -- what is known of rows before lines that are cut at tables, of rows before lines without one, and what it says of the last stretch
  pub record Placing (Before : List Row → Type 0) (Known Place : Bool → List Row → Type 0) : Type 0 where
    pub table : (q : Row) (x : List Row) → Before (q ∷ x) → before_table is_in_table (q ∷ x) < length (q ∷ x) → Before (behind_table (q ∷ x))
    pub start : (q : Row) (x : List Row) → Before (q ∷ x) → before_table is_in_table (q ∷ x) ≡ length (q ∷ x) → Known false (q ∷ x)
    pub step : (p : Bool) (q : Row) (x : List Row) → Known p (q ∷ x) → let n = before_defined on false (q ∷ x) in n < length (q ∷ x) → Known true (drop (defined_in on (drop n (q ∷ x))) (drop n (q ∷ x)))
    pub last : (p : Bool) (q : Row) (x : List Row) → Known p (q ∷ x) → before_defined on false (q ∷ x) ≡ length (q ∷ x) → Placed around Place p q x

  module _ (Before : List Row → Type 0) (Known Place : Bool → List Row → Type 0) (placing : Placing Before Known Place) (r : Row) (rs : List Row) (tail : Behind r rs) where
    abbrev ys : List Row
    ys = r ∷ rs

    -- lines behind lines in which no definitions begin
    sections-last : (c b b2 : ℕ) (p : Bool) (q : Row) (x : List Row) → length (q ∷ (x ++ ys)) ≤ suc c → length ys ≤ suc b2
        → before_defined on false (q ∷ x) ≡ length (q ∷ x) → before_defined on false (q ∷ (x ++ ys)) ≡ length (q ∷ x) + before_defined on false ys → AllByRecursion LeftIsBlank (q ∷ x) → Known p (q ∷ x)
        → SectionsJoin Place around (q ∷ x) r rs (sections_in on (suc c) p around (q ∷ (x ++ ys))) (sections_in on (suc b) p around (q ∷ x)) (sections_in on (suc b2) false around ys)
    sections-last c b b2 p q x l m2 whole both blank known =
        let all = q ∷ x in
        let n = before_defined on false ys in
        let behind = drop n ys in
        let k = defined_in on behind in
        let left = drop k behind in
        let size = length-append x ys in
        let back = fewer-left on r rs (length rs) (omega arith) in
        let few : length left ≤ c = omega (arith, l, size, back) in
        let fuel : from_cut c behind ≡ from_cut b2 behind = ap (λ l. defining (definitions (text_in (paragraph_of behind))) around (take k behind) ++ l) (sections-fuel c b2 true left few (fewer-left on r rs b2 m2)) in
        let first : sections_in on (suc c) p around (all ++ ys) ≡ undefined p around (all ++ take n ys) ++ from_cut b2 behind =
        ap (λ n. cut_at c p n (all ++ ys)) both
        ∙ (λ i. undefined p around (take-append-add all ys n i) ++ from_cut c (drop-append-add all ys n i))
        ∙ ap (λ l. undefined p around (all ++ take n ys) ++ l) fuel in
        joins-same Place around r rs all all (undefined p around (all ++ take n ys) ++ from_cut b2 behind) (sections_in on (suc c) p around (all ++ ys)) (undefined p around all) (sections_in on (suc b) p around all)
        (undefined false around (take n ys) ++ from_cut b2 behind) (sections_in on (suc b2) false around ys)
        refl (sym first) (sym (sections-plain b p q x whole)) refl
        (joins-back Place around r rs all (undefined p around (all ++ take n ys)) (undefined p around all) (undefined false around (take n ys)) (from_cut b2 behind) (undefined-join around Place r rs tail p q x n blank (placing.last p q x known whole)))

    -- lines behind others, if no paragraph goes on from the first to the second
    pub sections-join : (c b b2 : ℕ) (p : Bool) (x : List Row) → length (x ++ ys) ≤ c → length x ≤ b → length ys ≤ b2 → joined p x ys ≡ false → AllByRecursion LeftIsBlank x → Known p x
        → SectionsJoin Place around x r rs (sections_in on c p around (x ++ ys)) (sections_in on b p around x) (sections_in on b2 false around ys)
    sections-join c b b2 p [] l m m2 e blank known = sections_apart (sections-any c p ys e ∙ sections-fuel c b2 false ys l m2 ∙ ap (λ l. l ++ sections_in on b2 false around ys) (sym (sections-none b p)))
    sections-join zero b b2 p (q ∷ x) l m m2 e blank known = absurd (omega (arith, l))
    sections-join (suc c) zero b2 p (q ∷ x) l m m2 e blank known = absurd (omega (arith, m))
    sections-join (suc c) (suc b) zero p (q ∷ x) l m m2 e blank known = absurd (omega (arith, m2))
    sections-join (suc c) (suc b) (suc b2) p (q ∷ x) l m m2 e blank known =
        let all = q ∷ x in
        let n = before_defined on false all in
        let z = drop n all in
        let k = defined_in on z in
        let left = drop k z in
        let back = fewer-left on q x b m in
        let size = length-append x ys in
        let size2 = length-append left ys in
        let back2 = fewer-left on q x (length x) (omega arith) in
        by (before-apart on false all ys e) (λ less h. sections-join c b (suc b2) true left (omega (arith, l, size, size2, back2)) back m2 h (every-drop LeftIsBlank k z (every-drop LeftIsBlank n all blank)) (placing.step p q x known less))
      where
        Goal : Type 0
        Goal = SectionsJoin Place around (q ∷ x) r rs (sections_in on (suc c) p around (q ∷ (x ++ ys))) (sections_in on (suc b) p around (q ∷ x)) (sections_in on (suc b2) false around ys)

        by : Apart on false (q ∷ x) ys
            → (let left = drop (defined_in on (drop (before_defined on false (q ∷ x)) (q ∷ x))) (drop (before_defined on false (q ∷ x)) (q ∷ x)) in
            before_defined on false (q ∷ x) < suc (length x) → joined true left ys ≡ false → SectionsJoin Place around left r rs (sections_in on c true around (left ++ ys)) (sections_in on b true around left) (sections_in on (suc b2) false around ys))
            → Goal
        by (inr h) more = sections-last c b b2 p q x l m2 h.0 h.1 blank known
        by (inl h) more =
            let all = q ∷ x in
            let n = before_defined on false all in
            let z = drop n all in
            let k = defined_in on z in
            let left = drop k z in
            let apart : joined true z ys ≡ false = sym (joined-drop false true n all ys h.0) ∙ e in
            let within = defined-within on z in
            let size = prefix_len-le-length (λ (row : Row). is_paragraph row.leaf) z in
            let inside : k ≤ length z = omega (arith, within, size) in
            let few : n ≤ length all = let less = h.0 in omega (arith, less) in
            let front = undefined p around (take n all) in
            let mid = defining (definitions (text_in (paragraph_of z))) around (take k z) in
            let text = paragraph-apart z ys apart in
            let many = defined-apart on z ys apart in
            let rest : from_cut c (z ++ ys) ≡ mid ++ sections_in on c true around (left ++ ys) =
            (λ i. defining (definitions (text_in (text i))) around (take (many i) (z ++ ys)) ++ sections_in on c true around (drop (many i) (z ++ ys)))
            ∙ (λ i. defining (definitions (text_in (paragraph_of z))) around (take-append-le k z ys inside i) ++ sections_in on c true around (drop-append-le k z ys inside i)) in
            let whole : sections_in on (suc c) p around (all ++ ys) ≡ front ++ (mid ++ sections_in on c true around (left ++ ys)) =
            ap (λ n. cut_at c p n (all ++ ys)) h.1
            ∙ (λ i. undefined p around (take-append-le n all ys few i) ++ from_cut c (drop-append-le n all ys few i))
            ∙ ap (λ l. front ++ l) rest in
            let rows : take n all ++ (take k z ++ left) ≡ all = ap (λ l. take n all ++ l) (take-append-drop k z) ∙ take-append-drop n all in
            joins-same Place around r rs (take n all ++ (take k z ++ left)) all (front ++ (mid ++ sections_in on c true around (left ++ ys))) (sections_in on (suc c) p around (all ++ ys)) (front ++ (mid ++ sections_in on b true around left)) (sections_in on (suc b) p around all)
            (sections_in on (suc b2) false around ys) (sections_in on (suc b2) false around ys)
            rows (sym whole) refl refl
            (joins-front Place around r rs front (take n all) (take k z ++ left) (mid ++ sections_in on c true around (left ++ ys)) (mid ++ sections_in on b true around left) (sections_in on (suc b2) false around ys)
            (joins-front Place around r rs mid (take k z) left (sections_in on c true around (left ++ ys)) (sections_in on b true around left) (sections_in on (suc b2) false around ys) (more h.0 (sym (joined-behind k z ys within) ∙ apart))))

-- ---- lines of a part, cut before and behind tables
module _ (on : Constructs) (around : Part) (Before : List Row → Type 0) (Known Place : Bool → List Row → Type 0) (placing : Placing on around Before Known Place) (r : Row) (rs : List Row) (tail : Behind r rs) (none : is_in_table r ≡ false) where
  -- what is known of rows before the others
  record Ends (rows : List Row) : Type 0 where
    apart : joined false rows (r ∷ rs) ≡ false
    blank : AllByRecursion LeftIsBlank rows
    known : Before rows

  ends-behind : (q : Row) (x : List Row) → Ends (q ∷ x) → before_table is_in_table (q ∷ x) < length (q ∷ x) → Ends (behind_table (q ∷ x))
  ends-behind q x h less =
      let n = before_table is_in_table (q ∷ x) in
      let z = drop n (q ∷ x) in
      let m = table_lines is_in_table z in
      record {
        apart = joined-behind-table (q ∷ x) (r ∷ rs) h.apart;
        blank = every-drop LeftIsBlank m z (every-drop LeftIsBlank n (q ∷ x) h.blank);
        known = placing.table q x h.known less;
      }

  abbrev one_cut : List Cut → List Section
  one_cut cs = flat_map (sections_of_cut on around) cs

  pub cuts-sections : (c b b2 : ℕ) (x : List Row) → length (x ++ (r ∷ rs)) ≤ c → length x ≤ b → length (r ∷ rs) ≤ b2 → joined false x (r ∷ rs) ≡ false → AllByRecursion LeftIsBlank x → Before x
      → SectionsJoin Place around x r rs (cuts_in on around c (x ++ (r ∷ rs))) (cuts_in on around b x) (cuts_in on around b2 (r ∷ rs))
  cuts-sections c b b2 x l m m2 e blank known = by (cuts-join r rs none Ends ends-behind c b b2 x l m m2 (record { apart = e; blank = blank; known = known }))
    where
      by : CutsJoin r rs none Ends x (cuts c (x ++ (r ∷ rs))) (cuts b x) (cuts b2 (r ∷ rs)) → SectionsJoin Place around x r rs (cuts_in on around c (x ++ (r ∷ rs))) (cuts_in on around b x) (cuts_in on around b2 (r ∷ rs))
      by (cuts_apart k) = sections_apart (ap one_cut k ∙ flat_map-append (sections_of_cut on around) (cuts b x) (cuts b2 (r ∷ rs)))
      by (cut_seam h) =
          let all = h.q ∷ h.last in
          let now = take h.many (r ∷ rs) in
          let front = one_cut h.front in
          let back = one_cut h.back in
          let joint = sections_in on (length (all ++ now)) false around (all ++ now) in
          let one = sections_in on (length all) false around all in
          let two = sections_in on (length now) false around now in
          let whole : cuts_in on around c (x ++ (r ∷ rs)) ≡ front ++ (joint ++ back) = ap one_cut h.whole_is ∙ flat_map-append (sections_of_cut on around) h.front (untabled (all ++ now) ∷ h.back) in
          let first : cuts_in on around b x ≡ front ++ one = ap one_cut h.first_is ∙ flat_map-append (sections_of_cut on around) h.front (untabled all ∷ tabled [] ∷ []) ∙ ap (λ l. front ++ l) (append-nil one) in
          let second : cuts_in on around b2 (r ∷ rs) ≡ two ++ back = ap one_cut h.second_is in
          joins-same Place around r rs (h.above ++ all) x (front ++ (joint ++ back)) (cuts_in on around c (x ++ (r ∷ rs))) (front ++ one) (cuts_in on around b x) (two ++ back) (cuts_in on around b2 (r ∷ rs)) (sym h.rows_are) (sym whole) (sym first) (sym second)
          (joins-front Place around r rs front h.above all (joint ++ back) one (two ++ back) (joins-back Place around r rs all joint one two back (inside h.many all h.known (placing.start h.q h.last h.known.known h.alone))))
        where
          inside : (n : ℕ) (all : List Row) → Ends all → Known false all → let now = take n (r ∷ rs) in
              SectionsJoin Place around all r rs (sections_in on (length (all ++ now)) false around (all ++ now)) (sections_in on (length all) false around all) (sections_in on (length now) false around now)
          inside zero all ends known =
              sections_apart
              (ap (λ l. sections_in on (length l) false around l) (append-nil all) ∙ sym (append-nil (sections_in on (length all) false around all)))
          inside (suc n) all ends known =
              let z = take n rs in
              joins-longer Place around r z rs (drop n rs) (sym (take-append-drop n rs)) all (sections_in on (length (all ++ (r ∷ z))) false around (all ++ (r ∷ z))) (sections_in on (length all) false around all) (sections_in on (length (r ∷ z)) false around (r ∷ z))
              (sections-join on around Before Known Place placing r z (front-behind n r rs tail) (length (all ++ (r ∷ z))) (length all) (length (r ∷ z)) false all (omega arith) (omega arith) (omega arith) (joined-begin false all r z rs ∙ ends.apart) ends.blank known)
