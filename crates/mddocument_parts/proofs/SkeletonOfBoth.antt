-- The skeleton of a document is that of its parts, where the second goes on with no stretch of lines.
use Rattle.std.proofs.Common.{Bool, List, None, Option, Some, [], ap, arith, cond, drop, false, length, nat_le, not, refl, subst, suc, sym, take, true, zero, ℕ, ◌&&◌, ◌++◌, ◌+◌, ◌∙◌, ◌∷◌, ◌≡◌, ◌≤◌}
use Rattle.std.proofs.lemmas.Bool.{le-leb, leb-true}
use Rattle.std.specs.List.{AllByRecursion, flat_map, prefix_len, AllZip}
use Rattle.std.specs.Prelude.{map}
use Rattle.markdown_base.proofs.Facts.Bools.{and-left}
use Rattle.markdown_base.specs.Virtual.{Seat, virtual}
use Rattle.markdown_base.specs.declared.configuration.Constructs.{Constructs}
use Rattle.markdown_base.specs.declared.event.Event.{Event}
use Rattle.markdown_base.specs.declared.event.Point.{Point}
use Rattle.mdconstructs_machines.specs.LineEvents.{lines_in}
use Rattle.mdinline_labels.specs.Definitions.{definitions}
use Rattle.mdinline_labels.specs.declared.definitions.Definition.{Definition}
use Rattle.mdblock_leaf_blocks.specs.LeafBlocks.{Line}
use Rattle.mdblock_leaf_blocks.specs.LeafEvents.{Mark}
use Rattle.mdblock_lines.specs.Containers.{Container, footnote, item, Prefix, quote}
use Rattle.mdblock_containers.proofs.WrittenLemmas.{chained_length}
use Rattle.mdblock_containers.specs.Rows.{Row, is_paragraph}
use Rattle.mdblock_containers.specs.Skeleton.{Frame, Part, chained_from, end_of, ending_marks, exits, frames_at, further, next_chunk, parts_in, shared, standing}
use Rattle.mdblock_definitions.specs.Rows.{rows}
use Rattle.mdblock_definitions.specs.Sections.{Section, before_defined, cut, defined_in, defining, is_in_table, lines, lines_defined, paragraph_of, sections, sections_in, sections_of_cut, tabled, text_in, undefined}
use Rattle.mdblock_table_marks.specs.TableCuts.{Cut, before_table, begins_in_table, table_lines}
use Rattle.mddocument_parts.proofs.CutsJoined.{cuts, pieces}
use Rattle.mdblock_definitions.specs.Skeleton.{behind_marks, section_marks, sections_marks, skeleton}
use Rattle.mddocument_parts.proofs.Chained.{BeginsApart, HasNoLink, chained-append, chained-moved, further_on}
use Rattle.mddocument_parts.proofs.Events.{full-lines, in-lines, map-ext, map-same}
use Rattle.mddocument_parts.proofs.MarksOfBoth.{marks-of-both}
use Rattle.mddocument_parts.proofs.MovedSkeleton.{AreOk, AreRowsOk, IsRowOk, Shift, mc, mk, mp, mpart, mr, ms, msection, sections-marks-moved}
use Rattle.mddocument_parts.proofs.MovedLinks.{same-test}
use Rattle.mddocument_parts.proofs.SkeletonLinks.{in-sections, rows-ok, document-alone}
use Rattle.mddocument_parts.proofs.Shown.{line-untorn, shown-behind, shown-front, within}
use Rattle.mddocument_parts.specs.DocumentRests.{first_at_document_rest, first_stays, known_at_start, moved_container, moved_prefix, moved_row}
use Rattle.mddocument_parts.specs.Moved.{begins_line, line_endings, moved_event, moved_point}
use Rattle.mddocument_parts.specs.MovedSections.{SkeletonOfBoth, moved_section}

-- ==== Of the first line of a document it does not matter for its skeleton whether it goes on with a stretch of lines.
abbrev stay : Bool → Row → Row
stay b r = record r { stays = b }

abbrev stay-part : Bool → Part → Part
stay-part b p = record p { first = stay b p.first }

abbrev stay-section : Bool → Section → Section
stay-section b s = record s { part = stay-part b s.part }

-- ---- sections that are others but for that
record IsAlike (x y : Section) : Type 0 where
  pub stays : Bool
  pub is : x ≡ stay-section stays y

abbrev AreAlike : List Section → List Section → Type 0
AreAlike = AllZip IsAlike

same : (xs : List Section) → AreAlike xs xs
same [] = tt
same (x ∷ xs) = (record { stays = x.part.first.stays; is = refl }, same xs)

both : (xs ys us vs : List Section) → AreAlike xs ys → AreAlike us vs → AreAlike (xs ++ us) (ys ++ vs)
both [] [] us vs h k = k
both [] (y ∷ ys) us vs h k = absurd h
both (x ∷ xs) [] us vs h k = absurd h
both (x ∷ xs) (y ∷ ys) us vs h k = (h.0, both xs ys us vs h.1 k)

-- ---- their marks
module _ (bytes : List ℕ) where
  one-same : (b : Bool) (s : Section) → section_marks bytes (stay-section b s) ≡ section_marks bytes s
  one-same b s = by s.part.more
    where
      by : (more : List Row)
          → section_marks bytes (record { part = record { first = stay b s.part.first; more = more; frames = s.part.frames; stands = s.part.stands }; inside = s.inside })
          ≡ section_marks bytes (record { part = record { first = s.part.first; more = more; frames = s.part.frames; stands = s.part.stands }; inside = s.inside })
      by [] = refl
      by (next ∷ more) = refl

  behind-same : (b : Bool) (p : Part) (ss : List Section) → behind_marks bytes (stay-part b p) ss ≡ behind_marks bytes p ss
  behind-same b p ss = by p.more ss
    where
      by : (more : List Row) (ss : List Section)
          → behind_marks bytes (record { first = stay b p.first; more = more; frames = p.frames; stands = p.stands }) ss ≡ behind_marks bytes (record { first = p.first; more = more; frames = p.frames; stands = p.stands }) ss
      by [] [] = refl
      by [] (s ∷ ss) = refl
      by (next ∷ more) [] = refl
      by (next ∷ more) (s ∷ ss) = refl

  behind-alike : (b : Bool) (p : Part) (xs ys : List Section) → AreAlike xs ys → behind_marks bytes (stay-part b p) xs ≡ behind_marks bytes p ys
  behind-alike b p [] [] h = behind-same b p []
  behind-alike b p [] (y ∷ ys) h = absurd h
  behind-alike b p (x ∷ xs) [] h = absurd h
  behind-alike b p (x ∷ xs) (y ∷ ys) h =
      let step : Section → List Section → List Mark = λ s rest. exits bytes (drop (shared p.frames s.part.frames) p.frames) (end_of bytes p) ++ (ending_marks bytes p ++ (section_marks bytes s ++ behind_marks bytes s.part rest)) in
      let ended = exits bytes (drop (shared p.frames y.part.frames) p.frames) (end_of bytes p) in
      behind-same b p (x ∷ xs)
      ∙ (λ i. step (h.0.is i) xs)
      ∙ (λ i. ended ++ (ending_marks bytes p ++ (one-same h.0.stays y i ++ behind-alike h.0.stays y.part xs ys h.1 i)))

  alike-marks : (xs ys : List Section) → AreAlike xs ys → sections_marks bytes xs ≡ sections_marks bytes ys
  alike-marks [] [] h = refl
  alike-marks [] (y ∷ ys) h = absurd h
  alike-marks (x ∷ xs) [] h = absurd h
  alike-marks (x ∷ xs) (y ∷ ys) h = (λ i. section_marks bytes (h.0.is i) ++ behind_marks bytes (h.0.is i).part xs) ∙ (λ i. one-same h.0.stays y i ++ behind-alike h.0.stays y.part xs ys h.1 i)

-- ---- sections of lines of which the first is another
module _ (on : Constructs) (b : Bool) where
  around-any : (bound : ℕ) (x : Bool) (around : Part) (rs : List Row) → sections_in on bound x (stay-part b around) rs ≡ sections_in on bound x around rs
  around-any zero x around rs = refl
  around-any (suc bound) x around [] = refl
  around-any (suc bound) x around (r ∷ rs) =
      let all = r ∷ rs in
      let n = before_defined on false all in
      let behind = drop n all in
      let d = defined_in on behind in
      ap (λ l. undefined x around (take n all) ++ (defining (definitions (text_in (paragraph_of behind))) around (take d behind) ++ l)) (around-any bound true around (drop d behind))

  tabled-any : (around : Part) (rs : List Row) → tabled (stay-part b around) rs ≡ tabled around rs
  tabled-any around [] = refl
  tabled-any around (r ∷ rs) = refl

  cut-any : (around : Part) (c : Cut) → sections_of_cut on (stay-part b around) c ≡ sections_of_cut on around c
  cut-any around c = (λ i. cond c.is_table (tabled-any around c.rows i) (around-any (length c.rows) false around c.rows i))

  cuts-any : (around : Part) (cs : List Cut) → flat_map (sections_of_cut on (stay-part b around)) cs ≡ flat_map (sections_of_cut on around) cs
  cuts-any around [] = refl
  cuts-any around (c ∷ cs) = (λ i. cut-any around c i ++ cuts-any around cs i)

  module _ (r : Row) where
    abbrev q : Row
    q = stay b r

    text-same : (n : ℕ) (rs : List Row) → text_in (take n (q ∷ rs)) ≡ text_in (take n (r ∷ rs))
    text-same zero rs = refl
    text-same (suc n) rs = refl

    paragraph-same : (rs : List Row) → text_in (paragraph_of (q ∷ rs)) ≡ text_in (paragraph_of (r ∷ rs))
    paragraph-same rs = text-same (prefix_len (λ (row : Row). is_paragraph row.leaf) (r ∷ rs)) rs

    defined-same : (rs : List Row) → defined_in on (q ∷ rs) ≡ defined_in on (r ∷ rs)
    defined-same rs = ap (λ t. cond on.definition (lines_defined t) 0) (paragraph-same rs)

    before-same : (rs : List Row) → before_defined on false (q ∷ rs) ≡ before_defined on false (r ∷ rs)
    before-same rs = ap (λ n. cond (not false && nat_le 1 n) 0 (suc (before_defined on (is_paragraph r.leaf) rs))) (defined-same rs)

    undefined-alike : (x : Bool) (around : Part) (n : ℕ) (rs : List Row) → AreAlike (undefined x (stay-part b around) (take n (q ∷ rs))) (undefined x around (take n (r ∷ rs)))
    undefined-alike x around zero rs = tt
    undefined-alike x around (suc n) rs = (record { stays = b; is = refl }, same _)

    defining-alike : (ds : List Definition) (around : Part) (n : ℕ) (rs : List Row) → AreAlike (defining ds (stay-part b around) (take n (q ∷ rs))) (defining ds around (take n (r ∷ rs)))
    defining-alike ds around zero rs = tt
    defining-alike ds around (suc n) rs = (record { stays = b; is = refl }, tt)

    abbrev after-text : (bound : ℕ) → Part → (behind : List Row) → List Section
    after-text bound around behind = defining (definitions (text_in (paragraph_of behind))) around (take (defined_in on behind) behind) ++ sections_in on bound true around (drop (defined_in on behind) behind)

    cut-alike : (bound : ℕ) (x : Bool) (around : Part) (rs : List Row) → AreAlike (sections_in on bound x (stay-part b around) (q ∷ rs)) (sections_in on bound x around (r ∷ rs))
    cut-alike zero x around rs = tt
    cut-alike (suc bound) x around rs =
        subst (λ n. AreAlike (undefined x (stay-part b around) (take n (q ∷ rs)) ++ after-text bound (stay-part b around) (drop n (q ∷ rs))) (sections_in on (suc bound) x around (r ∷ rs))) (sym (before-same rs))
        (by (before_defined on false (r ∷ rs)) (cut-alike bound true around rs))
      where
        here : (d : ℕ) → AreAlike (sections_in on bound true (stay-part b around) (q ∷ rs)) (sections_in on bound true around (r ∷ rs))
            → (ds : List Definition) → AreAlike (defining ds (stay-part b around) (take d (q ∷ rs)) ++ sections_in on bound true (stay-part b around) (drop d (q ∷ rs))) (defining ds around (take d (r ∷ rs)) ++ sections_in on bound true around (drop d (r ∷ rs)))
        here zero more ds = more
        here (suc d) more ds =
            both (defining ds (stay-part b around) (take (suc d) (q ∷ rs))) (defining ds around (take (suc d) (r ∷ rs))) _ _ (defining-alike ds around (suc d) rs)
            (subst (λ l. AreAlike l (sections_in on bound true around (drop d rs))) (sym (around-any bound true around (drop d rs))) (same _))

        by : (n : ℕ) → AreAlike (sections_in on bound true (stay-part b around) (q ∷ rs)) (sections_in on bound true around (r ∷ rs))
            → AreAlike (undefined x (stay-part b around) (take n (q ∷ rs)) ++ after-text bound (stay-part b around) (drop n (q ∷ rs))) (undefined x around (take n (r ∷ rs)) ++ after-text bound around (drop n (r ∷ rs)))
        by zero more =
            let ds = definitions (text_in (paragraph_of (r ∷ rs))) in
            subst (λ t. AreAlike (defining (definitions t) (stay-part b around) (take (defined_in on (q ∷ rs)) (q ∷ rs)) ++ sections_in on bound true (stay-part b around) (drop (defined_in on (q ∷ rs)) (q ∷ rs))) (after-text bound around (r ∷ rs))) (sym (paragraph-same rs))
            (subst (λ d. AreAlike (defining ds (stay-part b around) (take d (q ∷ rs)) ++ sections_in on bound true (stay-part b around) (drop d (q ∷ rs))) (after-text bound around (r ∷ rs))) (sym (defined-same rs)) (here (defined_in on (r ∷ rs)) more ds))
        by (suc n) more =
            let behind = drop n rs in
            let d = defined_in on behind in
            both (undefined x (stay-part b around) (take (suc n) (q ∷ rs))) (undefined x around (take (suc n) (r ∷ rs))) _ _ (undefined-alike x around (suc n) rs)
            (both (defining (definitions (text_in (paragraph_of behind))) around (take d behind)) _ _ _ (same _) (subst (λ l. AreAlike l (sections_in on bound true around (drop d behind))) (sym (around-any bound true around (drop d behind))) (same _)))

    -- cut at tables: the first of them is in the first piece that has a line
    cuts-alike : (bound : ℕ) (around : Part) (rs : List Row) → AreAlike (flat_map (sections_of_cut on (stay-part b around)) (cuts bound (q ∷ rs))) (flat_map (sections_of_cut on around) (cuts bound (r ∷ rs)))
    cuts-alike zero around rs = tt
    cuts-alike (suc bound) around rs = by (begins_in_table is_in_table rs)
      where
        later : List Row → List Section
        later rows = flat_map (sections_of_cut on around) (cuts bound rows)

        rest : (rows : List Row) → AreAlike (flat_map (sections_of_cut on (stay-part b around)) (cuts bound rows)) (later rows)
        rest rows = subst (λ l. AreAlike l (later rows)) (sym (cuts-any around (cuts bound rows))) (same (later rows))

        by : (c : Bool) → let n = cond c 0 (suc (before_table is_in_table rs)) in
            AreAlike (flat_map (sections_of_cut on (stay-part b around)) (pieces bound n (q ∷ rs))) (flat_map (sections_of_cut on around) (pieces bound n (r ∷ rs)))
        by true = (record { stays = b; is = refl }, rest (drop (prefix_len is_in_table rs) rs))
        by false =
            let k = before_table is_in_table rs in
            let z = drop k rs in
            let m = table_lines is_in_table z in
            let front = take k rs in
            both (sections_in on (suc (length front)) false (stay-part b around) (q ∷ front)) (sections_in on (suc (length front)) false around (r ∷ front)) _ _ (cut-alike (suc (length front)) false around front)
            (subst (λ l. AreAlike (l ++ flat_map (sections_of_cut on (stay-part b around)) (cuts bound (drop m z))) (tabled around (take m z) ++ later (drop m z))) (sym (tabled-any around (take m z)))
            (both (tabled around (take m z)) (tabled around (take m z)) _ _ (same (tabled around (take m z))) (rest (drop m z))))

  part-alike : (p : Part) → AreAlike (cut on (stay-part b p)) (cut on p)
  part-alike p = by p.first.is_blank
    where
      by : (c : Bool) → AreAlike (cond c (record { part = stay-part b p; inside = lines false } ∷ []) (flat_map (sections_of_cut on (stay-part b p)) (cuts (suc (length p.more)) (stay b p.first ∷ p.more))))
          (cond c (record { part = p; inside = lines false } ∷ []) (flat_map (sections_of_cut on p) (cuts (suc (length p.more)) (p.first ∷ p.more))))
      by true = (record { stays = b; is = refl }, tt)
      by false = cuts-alike p.first (suc (length p.more)) p p.more

  sections-alike : (rs : List Row) → AreAlike (sections on (first_stays b rs)) (sections on rs)
  sections-alike [] = tt
  sections-alike (r ∷ rs) =
      let n = cond r.is_blank 0 (further rs) in
      let p : Part = record { first = r; more = take n rs; frames = frames_at r rs; stands = standing r rs } in
      both (cut on (stay-part b p)) (cut on p) _ _ (part-alike p) (same (flat_map (cut on) (parts_in (length rs) (drop n rs))))

  pub first-marks : (bytes : List ℕ) (rs : List Row) → sections_marks bytes (sections on (first_stays b rs)) ≡ sections_marks bytes (sections on rs)
  first-marks bytes rs = alike-marks bytes (sections on (first_stays b rs)) (sections on rs) (sections-alike rs)

-- ==== The skeleton of a document is that of its parts, where the second goes on with no stretch of lines.
-- ---- sections of which lines and places are where they are
module _ (m : Shift) (to-is : (p : Point) → m.places.to p ≡ p) (number-is : (n : ℕ) → m.number n ≡ n) where
  line-is : (line : Line) → ms m line ≡ line
  line-is line = map-same _ (λ (s : Seat). (let p = to-is s.point in let q = to-is s.end in (λ i. let r : Seat = record { byte = s.byte; point = p i; end = q i } in r))) line

  container-is : (c : Container) → mc m c ≡ c
  container-is (quote q) = let a = number-is q.line in (λ j. quote (record q { line = a j }))
  container-is (footnote f) = let a = number-is f.line in (λ j. footnote (record f { line = a j }))
  container-is (item i) = let a = number-is i.line in let b = number-is i.list in (λ j. item (record i { line = a j; list = b j }))

  prefix-is : (p : Prefix) → mp m p ≡ p
  prefix-is p = let c = container-is p.container in (λ i. record p { container = c i })

  row-is : (r : Row) → mr m r ≡ r
  row-is r =
      let n = number-is r.number in
      let line = line-is r.line in
      let went = map-same (mp m) prefix-is r.went_on in
      let begun = map-same (mp m) prefix-is r.begun in
      (λ i. record r { number = n i; line = line i; went_on = went i; begun = begun i })

  frame-is : (f : Frame) → (let g : Frame = record f { line = m.number f.line } in g) ≡ f
  frame-is f = let n = number-is f.line in (λ i. record f { line = n i })

  section-is : (s : Section) → msection m s ≡ s
  section-is s =
      let p = s.part in
      let first = row-is p.first in
      let more = map-same (mr m) row-is p.more in
      let frames = map-same _ frame-is p.frames in
      let stands = map-same (mc m) container-is p.stands in
      (λ i. record s { part = (let part : Part = record { first = first i; more = more i; frames = frames i; stands = stands i } in part) })

-- ---- a document by its lines
module _ (m : Shift) (t : ℕ) (bytes : List ℕ) (known : AreOk m (virtual t bytes)) (on : Constructs) where
  abbrev document : List Row
  document = rows on (lines_in (virtual t bytes))

  document-ok : AreRowsOk m document
  document-ok = rows-ok m on (known_at_start on) 1 (lines_in (virtual t bytes)) (in-lines _ (virtual t bytes) known) (full-lines (virtual t bytes))

  first-ok : (rs : List Row) → AreRowsOk m rs → AreRowsOk m (first_stays false rs)
  first-ok [] h = tt
  first-ok (r ∷ rs) h = (record { seats = h.0.seats; some = h.0.some; room = h.0.room }, h.1)

  whole-marks : sections_marks m.places.new (map (msection m) (sections on document)) ≡ mk m (sections_marks m.places.old (sections on document))
  whole-marks = sections-marks-moved m (sections on document) (in-sections (IsRowOk m) on document document-ok)

  first-moved : sections_marks m.places.new (map (msection m) (sections on (first_stays false document))) ≡ mk m (sections_marks m.places.old (sections on document))
  first-moved =
      let rs = first_stays false document in
      sections-marks-moved m (sections on rs) (in-sections (IsRowOk m) on rs (first-ok document document-ok)) ∙ ap (mk m) (first-marks on false m.places.old document)

any-known : (m : Shift) → ((p : Point) → m.places.known p ≡ true) → (seats : List Seat) → AreOk m seats
any-known m h [] = tt
any-known m h (s ∷ ss) = ((h s.point, h s.end), any-known m h ss)

-- ---- marks have no link
module _ (b : List ℕ) where
  bare : Shift
  bare = record { places = record { old = b; new = b; to = λ p. p; link = λ l. None; unlinked = refl; known = λ p. true; shows = λ p k. refl }; number = λ n. n; same = λ i j. refl }

  no-link : (marks : List Mark) → AllByRecursion HasNoLink (map (λ (q : Mark). let e : Event = record q.0 { link = None } in let r : Mark = (e, q.1) in r) marks)
  no-link [] = tt
  no-link (q ∷ marks) = (refl, no-link marks)

  document-unlinked : (on : Constructs) (t : ℕ) → AllByRecursion HasNoLink (sections_marks b (sections on (rows on (lines_in (virtual t b)))))
  unfolding bare
  document-unlinked on t =
      let ss = sections on (rows on (lines_in (virtual t b))) in
      let stays = map-same (msection bare) (section-is bare (λ p. refl) (λ n. refl)) ss in
      let same = sym (ap (sections_marks b) stays) ∙ whole-marks bare t b (any-known bare (λ p. refl) (virtual t b)) on in
      subst (AllByRecursion HasNoLink) (sym same) (no-link (sections_marks b ss))

-- ---- the first part, as it is
module _ (a b : List ℕ) (h : begins_line b a ≡ true) where
  stays : Shift
  stays = record {
    places = record {
      old = a;
      new = a ++ b;
      to = λ p. p;
      link = λ l. l;
      unlinked = refl;
      known = λ p. nat_le p.index (length a);
      shows = λ p k. shown-front a b (line-untorn a b h) p (leb-true p.index (length a) k);
    };
    number = λ n. n;
    same = λ i j. refl;
  }

  in-first : (seats : List Seat) → AllByRecursion (λ (s : Seat). (s.point.index ≤ length a) × (s.end.index ≤ length a)) seats → AreOk stays seats
  unfolding stays
  in-first [] k = tt
  in-first (s ∷ seats) k = ((le-leb s.point.index (length a) k.0.0, le-leb s.end.index (length a) k.0.1), in-first seats k.1)

  pub front-marks : (on : Constructs) (t : ℕ) → let ss = sections on (rows on (lines_in (virtual t a))) in sections_marks (a ++ b) ss ≡ sections_marks a ss
  unfolding stays
  front-marks on t =
      let ss = sections on (rows on (lines_in (virtual t a))) in
      let same = map-same (msection stays) (section-is stays (λ p. refl) (λ n. refl)) ss in
      sym (ap (sections_marks (a ++ b)) same)
      ∙ whole-marks stays t a (in-first (virtual t a) (within t (length a) a 1 1 0 (omega arith))) on
      ∙ map-same _ (λ (q : Mark). refl) (sections_marks a ss)

  -- ---- the second part, moved
  abbrev pub moved_mark : Mark → Mark
  moved_mark q = (record q.0 { point = moved_point (line_endings a) (length a) q.0.point }, q.1)

  goes : Shift
  goes = record {
    places = record {
      old = b;
      new = a ++ b;
      to = moved_point (line_endings a) (length a);
      link = λ l. l;
      unlinked = refl;
      known = λ p. true;
      shows = λ p k. shown-behind a b (line-untorn a b h) (line_endings a) p;
    };
    number = λ n. n + line_endings a;
    same = λ i j. same-test i j (line_endings a);
  }

  container-goes : (c : Container) → moved_container (line_endings a) c ≡ mc goes c
  unfolding goes
  container-goes (quote q) = refl
  container-goes (item i) = refl
  container-goes (footnote f) = refl

  prefix-goes : (p : Prefix) → moved_prefix (line_endings a) p ≡ mp goes p
  prefix-goes p = let c = container-goes p.container in (λ i. record p { container = c i })

  row-goes : (r : Row) → moved_row (line_endings a) (length a) r ≡ mr goes r
  unfolding goes
  row-goes r =
      let went = map-ext (moved_prefix (line_endings a)) (mp goes) prefix-goes r.went_on in
      let begun = map-ext (moved_prefix (line_endings a)) (mp goes) prefix-goes r.begun in
      (λ i. record (moved_row (line_endings a) (length a) r) { went_on = went i; begun = begun i })

  section-goes : (s : Section) → moved_section (line_endings a) (length a) s ≡ msection goes s
  unfolding goes
  section-goes s =
      let p = s.part in
      let first = row-goes p.first in
      let more = map-ext (moved_row (line_endings a) (length a)) (mr goes) row-goes p.more in
      let stands = map-ext (moved_container (line_endings a)) (mc goes) container-goes p.stands in
      (λ i. record s { part = (let part : Part = record (mpart goes p) { first = first i; more = more i; stands = stands i } in part) })

  pub behind-marks : (on : Constructs) (t : ℕ) → let all = rows on (lines_in (virtual t b)) in
      sections_marks (a ++ b) (map (moved_section (line_endings a) (length a)) (sections on (first_stays false all))) ≡ map moved_mark (sections_marks b (sections on all))
  unfolding goes
  behind-marks on t =
      let all = rows on (lines_in (virtual t b)) in
      ap (sections_marks (a ++ b)) (map-ext (moved_section (line_endings a) (length a)) (msection goes) section-goes (sections on (first_stays false all))) ∙ first-moved goes t b (any-known goes (λ p. refl) (virtual t b)) on

  -- its sections as they are
  pub all-behind : (on : Constructs) (t : ℕ) → let ss = sections on (rows on (lines_in (virtual t b))) in
      sections_marks (a ++ b) (map (moved_section (line_endings a) (length a)) ss) ≡ map moved_mark (sections_marks b ss)
  unfolding goes
  all-behind on t =
      let ss = sections on (rows on (lines_in (virtual t b))) in
      ap (sections_marks (a ++ b)) (map-ext (moved_section (line_endings a) (length a)) (msection goes) section-goes ss) ∙ whole-marks goes t b (any-known goes (λ p. refl) (virtual t b)) on

  -- ---- events of moved marks
  next-same : (i : ℕ) (marks : List Mark) → next_chunk i (map moved_mark marks) ≡ next_chunk i marks
  next-same i [] = refl
  next-same i ((e, None) ∷ marks) = next-same (suc i) marks
  next-same i ((e, Some chunk) ∷ marks) = refl

  apart-moved : (marks : List Mark) → BeginsApart marks → BeginsApart (map moved_mark marks)
  apart-moved [] k = tt
  apart-moved ((e, None) ∷ marks) k = apart-moved marks k
  apart-moved ((e, Some chunk) ∷ marks) k = k

  abbrev placed : Event → Event
  placed e = record e { point = moved_point (line_endings a) (length a) e.point }

  chained-placed : (i : ℕ) (p : Option ℕ) (marks : List Mark) → chained_from i p (map moved_mark marks) ≡ map placed (chained_from i p marks)
  chained-placed i p [] = refl
  chained-placed i p ((e, None) ∷ marks) = ap (λ l. placed e ∷ l) (chained-placed (suc i) p marks)
  chained-placed i p ((e, Some chunk) ∷ marks) =
      let next = next-same (suc i) marks in
      let rest = chained-placed (suc i) (Some i) marks in
      (λ d. (let v : Event = record (placed e) { link = Some (record { previous = cond chunk.has_previous p None; next = cond chunk.has_next (next d) None; content = chunk.content }) } in v) ∷ rest d)

  placed-on : (k : ℕ) (es : List Event) → map placed (map (further_on k) es) ≡ map (moved_event (line_endings a) (length a) k) es
  placed-on k [] = refl
  placed-on k (e ∷ es) = ap (λ l. moved_event (line_endings a) (length a) k e ∷ l) (placed-on k es)

-- the events of the marks of both
pub chained-of-both : (on : Constructs) (t : ℕ) (a b : List ℕ) (torn : begins_line b a ≡ true)
    → let first = skeleton on a (virtual t a) in
    chained_from 0 None (sections_marks (a ++ b) (sections on (rows on (lines_in (virtual t a)))) ++ map (moved_mark a b torn) (sections_marks b (sections on (rows on (lines_in (virtual t b))))))
    ≡ first ++ map (moved_event (line_endings a) (length a) (length first)) (skeleton on b (virtual t b))
chained-of-both on t a b torn =
    let one = sections_marks a (sections on (rows on (lines_in (virtual t a)))) in
    let two = sections_marks b (sections on (rows on (lines_in (virtual t b)))) in
    let first = chained_from 0 None one in
    let k = length first in
    let size = chained_length 0 None one in
    let linked = (document-alone a on (lines_in (virtual t a))).linked in
    let apart = apart-moved a b torn two (document-alone b on (lines_in (virtual t b))).apart in
    ap (λ ms. chained_from 0 None (ms ++ map (moved_mark a b torn) two)) (front-marks a b torn on t)
    ∙ chained-append 0 k None one (map (moved_mark a b torn) two) (omega (arith, size)) linked apart
    ∙ ap (λ l. first ++ l)
    (chained-placed a b torn k None two
    ∙ ap (λ l. map (placed a b torn) l) (chained-moved k 0 k None None two (omega arith) refl (document-unlinked b on t))
    ∙ placed-on a b torn k (chained_from 0 None two))

pub skeleton-of-both : SkeletonOfBoth
skeleton-of-both on t a b rest off =
    let torn : begins_line b a ≡ true = and-left (begins_line b a) (first_at_document_rest on (lines_in (virtual t a)) (lines_in (virtual t b))) rest in
    ap (chained_from 0 None) (marks-of-both on t a b rest off)
    ∙ ap (λ ms. chained_from 0 None (sections_marks (a ++ b) (sections on (rows on (lines_in (virtual t a)))) ++ ms)) (behind-marks a b torn on t)
    ∙ chained-of-both on t a b torn
