-- Sections of a document at a rest where a stretch of lines goes on: those of its parts, but for the section at the seam.
use Rattle.std.proofs.Common.{Bool, List, [], ap, arith, cond, drop, eq-eqb, false, length, length-take, nat_le, not, refl, subst, suc, sym, take, true, zero, ℕ, ◌&&◌, ◌++◌, ◌+◌, ◌==◌, ◌||◌, ◌∙◌, ◌∷◌, ◌≡◌, ◌≤◌}
use Rattle.std.proofs.Math.Bool.{and-false, or-true}
use Rattle.std.proofs.lemmas.Bool.{eqb-true, false≢true, not-true}
use Rattle.std.proofs.lemmas.Grind.{flat_map-append}
use Rattle.std.proofs.lemmas.List.{append-nil, nil_from_length}
use Rattle.std.specs.List.{AllByRecursion, flat_map}
use Rattle.std.specs.Prelude.{map, reverse}
use Rattle.std.proofs.Math.Seq.{take-nil}
use Rattle.markdown_base.proofs.Common.{and-right}
use Rattle.markdown_base.proofs.Facts.Bools.{and-left}
use Rattle.markdown_base.specs.Virtual.{virtual}
use Rattle.markdown_base.specs.declared.configuration.Constructs.{Constructs}
use Rattle.markdown_tokenizer.proofs.Positions.Order.{every-back, every-front}
use Rattle.mdconstructs_tables.proofs.Rows.Misfits.{none-left}
use Rattle.mdconstructs_machines.specs.LineEvents.{lines_in}
use Rattle.mdinline_labels.specs.Definitions.{definitions}
use Rattle.mdinline_labels.specs.declared.definitions.Definition.{Definition}
use Rattle.mdblock_leaf_blocks.proofs.Lines.WholeLines.{IsWhole}
use Rattle.mdblock_leaf_blocks.specs.LeafBlocks.{Line, interrupts, text_of}
use Rattle.mdblock_leaf_blocks.specs.LineKinds.{is_blank_line, line_kind}
use Rattle.mdblock_lines.specs.Containers.{Container, Prefix}
use Rattle.mdblock_containers.proofs.DocumentRows.{going_few}
use Rattle.mdblock_containers.proofs.FrameFacts.{none_is}
use Rattle.mdblock_containers.specs.Prefixes.{columns_of, containers_of, going_on}
use Rattle.mdblock_containers.specs.Rows as without
use Rattle.mdblock_containers.specs.Rows as without
use Rattle.mdblock_containers.specs.Rows.{Before, Row, closed, has_none, holds_ending, is_paragraph, leaf_after, open_paragraph, open_table, rest_of}
use Rattle.mdblock_containers.specs.Skeleton.{Frame, Part, frames_at, frames_of, going_on_at, last_of, left_in, list_at, list_begun, parts, standing}
use Rattle.mdblock_definitions.proofs.PlainLetters.{open-not-blank}
use Rattle.mdblock_definitions.proofs.SectionCosts.{defined-text}
use Rattle.mdblock_definitions.specs.BlankLines as blank_lines
use Rattle.mdblock_definitions.specs.Rows.{Known, is_row_of_table, known_after, row_of, row_without, rows, rows_from, underlines_nothing}
use Rattle.mdblock_definitions.specs.Sections.{Section, before_defined, begins_text, cut, defined, defined_in, defining, is_in_table, paragraph_of, sections, sections_in, sections_of, sections_of_cut, table, tabled, text_in}
use Rattle.mdblock_table_marks.specs.TableCuts.{Cut}
use Rattle.mdblock_definitions.specs.Skeleton.{all_rows}
use Rattle.mddocument_parts.proofs.DocumentBytes.{counted, document-rows-of-both}
use Rattle.mddocument_parts.proofs.CutsJoined.{cuts, cuts-none}
use Rattle.mddocument_parts.proofs.DocumentLabels.{anew-untabled, joined-known, rows-left, starts}
use Rattle.mddocument_parts.proofs.DocumentRests.{anew-same, begins-anew, closed-is, first-row, stretches-go-on-at-top}
use Rattle.mddocument_parts.proofs.JoinedSections.{Behind, Joins, Placing, Seam, all-same, apart, cuts-in-fuel, cuts-plain, cuts-sections, cuts_in, follows, its_frames, its_parts, its_stands, joins-as, joins-back, joins-front, joins-longer, joins-same, left as behind_left, left-parts-by, lefts, parts-join, parts_by, real-parts, same-parts, seam, sections-none, sections-plain, stays as behind_stays}
use Rattle.mddocument_parts.proofs.MarksOfBoth.{GoesOnWithNone, frames-apart, standing-apart}
use Rattle.mddocument_parts.proofs.MovedBlocks.{text-moved}
use Rattle.mddocument_parts.proofs.MovedRows.{columns-moved}
use Rattle.mddocument_parts.proofs.MovedSections.{sections-move}
use Rattle.mddocument_parts.proofs.SectionRows.{AllLeft, LeftIsBlank, joined, joined-first, joined-none, left-no-text, left-untabled}
use Rattle.mddocument_parts.proofs.WithoutContainers.PlainParts.{IsAlone, IsBare, parts-alone}
use Rattle.mddocument_parts.specs.DocumentRests.{begins_anew, begins_at_document_rest, document_rows, first_at_document_rest, first_stays, goes_on_behind, is_at_document_rest, is_closed, known_at_start, known_behind, moved_prefix, moved_row}
use Rattle.mddocument_parts.specs.JoinedStretches.{AllStay, IsBlankPart, IsSame, SectionsJoin, any_place, at_top, firsts, joined_part, may_stay, plain_section, plain_sections, section_seam, sections_apart}
use Rattle.mddocument_parts.specs.Moved.{begins_line, line_endings, moved_line}
use Rattle.mddocument_parts.specs.MovedSections.{moved_section}

-- ==== Sections of rows behind others, of all parts. Where the second go on with a stretch with which the first end, no container is open, and the stretch is cut as in the parts, but for the section at the seam.
-- nothing is said of rows here
abbrev no_row : Bool → Row → List Row
no_row b row = []

abbrev no_rows : List Definition → List Row → List Row
no_rows ds rows = []

-- and nothing is known of them
abbrev any_rows : List Row → Type 0
any_rows rows = Unit {0}

-- ---- the spans in which a part stands are all that sections take of it
around-any : (on : Constructs) (bound : ℕ) (p : Bool) (a b : Part) (rows : List Row) → a.frames ≡ b.frames → a.stands ≡ b.stands → sections_in on bound p a rows ≡ sections_in on bound p b rows
around-any on zero p a b rows f s = refl
around-any on (suc bound) p a b [] f s = refl
around-any on (suc bound) p a b (r ∷ rs) f s =
    let all = r ∷ rs in
    let n = before_defined on false all in
    let behind = drop n all in
    let k = defined_in on behind in
    let ds = definitions (text_in (paragraph_of behind)) in
    let more = around-any on bound true a b (drop k behind) f s in
    (λ i. sections_of (p && begins_text (take n all)) (map (λ (q : Part). let o : Part = record { first = q.first; more = q.more; frames = f i; stands = s i } in o) (blank_lines.parts (take n all))) ++ (defining-any ds (take k behind) i ++ more i))
  where
    defining-any : (ds : List Definition) (rows : List Row) → defining ds a rows ≡ defining ds b rows
    defining-any ds [] = refl
    defining-any ds (q ∷ qs) = (λ i. (let o : Section = record { part = record { first = q; more = qs; frames = f i; stands = s i }; inside = defined ds } in o) ∷ [])

tabled-any : (a b : Part) (rows : List Row) → a.frames ≡ b.frames → a.stands ≡ b.stands → tabled a rows ≡ tabled b rows
tabled-any a b [] f s = refl
tabled-any a b (q ∷ qs) f s = (λ i. (let o : Section = record { part = record { first = q; more = qs; frames = f i; stands = s i }; inside = table } in o) ∷ [])

cut-any : (on : Constructs) (a b : Part) (c : Cut) → a.frames ≡ b.frames → a.stands ≡ b.stands → sections_of_cut on a c ≡ sections_of_cut on b c
cut-any on a b c f s = (λ i. cond c.is_table (tabled-any a b c.rows f s i) (around-any on (length c.rows) false a b c.rows f s i))

cuts-any : (on : Constructs) (bound : ℕ) (a b : Part) (rows : List Row) → a.frames ≡ b.frames → a.stands ≡ b.stands → cuts_in on a bound rows ≡ cuts_in on b bound rows
cuts-any on bound a b rows f s = by (cuts bound rows)
  where
    by : (cs : List Cut) → flat_map (sections_of_cut on a) cs ≡ flat_map (sections_of_cut on b) cs
    by [] = refl
    by (c ∷ cs) = (λ i. cut-any on a b c f s i ++ by cs i)

-- ---- rows that are left blank are sections of their own
-- no number that is none at least
zero-if : (n : ℕ) → (1 ≤ n → ⊥) → n ≡ 0
zero-if zero h = refl
zero-if (suc n) h = absurd (h (omega arith))

module _ (around : Part) where
  abbrev pub blank_parts : List Row → List Part
  blank_parts rows = map (λ (row : Row). let p : Part = record { first = row; more = []; frames = around.frames; stands = around.stands } in p) rows

  blanks-are : (ps : List Part) → AllByRecursion IsBlankPart ps → AllByRecursion (IsSame around) ps → ps ≡ blank_parts (firsts ps)
  blanks-are [] h k = refl
  blanks-are (p ∷ ps) h k = (λ i. (let o : Part = record { first = p.first; more = h.0.alone i; frames = k.0.frames i; stands = k.0.stands i } in o) ∷ blanks-are ps h.1 k.1 i)

  module _ (on : Constructs) where
    left-before : (p : Bool) (y : List Row) → AllLeft y → AllByRecursion LeftIsBlank y → before_defined on p y ≡ length y
    left-before p [] l k = refl
    left-before p (r ∷ y) l k =
        let none = zero-if (defined_in on (r ∷ y)) (λ some. false≢true (sym (k.0 l.0).1 ∙ defined-text on r y some)) in
        ap (λ n. cond (not p && nat_le 1 n) 0 (suc (before_defined on (is_paragraph r.leaf) y))) none ∙ ap (λ b. cond b 0 (suc (before_defined on (is_paragraph r.leaf) y))) (and-false (not p)) ∙ ap suc (left-before (is_paragraph r.leaf) y l.1 k.1)

    left-sections : (b : ℕ) (y : List Row) → length y ≤ b → AllLeft y → AllByRecursion LeftIsBlank y → sections_in on b false around y ≡ plain_sections (blank_parts y)
    left-sections b [] m l k = sections-none on around b false
    left-sections zero (r ∷ y) m l k = absurd (omega (arith, m))
    left-sections (suc b) (r ∷ y) m l k =
        let all = r ∷ y in
        let n = length all in
        let are = left-parts-by (its_frames around) (its_stands around) n all (omega arith) l k in
        sections-plain on around b false r y (left-before false all l k)
        ∙ ap (sections_of false) (same-parts around n [] all ∙ blanks-are (its_parts around n all) are.1 (all-same around n all) ∙ ap blank_parts are.0)

    left-cuts : (b : ℕ) (y : List Row) → length y ≤ b → AllLeft y → AllByRecursion LeftIsBlank y → cuts_in on around b y ≡ plain_sections (blank_parts y)
    left-cuts b [] m l k = ap (flat_map (sections_of_cut on around)) (cuts-none b)
    left-cuts zero (r ∷ y) m l k = absurd (omega (arith, m))
    left-cuts (suc b) (r ∷ y) m l k = cuts-plain on around b r y (left-untabled on no_row no_rows (r ∷ y) l k) ∙ left-sections (length (r ∷ y)) (r ∷ y) (omega arith) l k

    -- behind other rows
    with-blanks : (c b : ℕ) (q : Row) (x : List Row) (ps : List Part) → length (q ∷ (x ++ firsts ps)) ≤ c → length (q ∷ x) ≤ b → AllByRecursion LeftIsBlank (q ∷ x) → AllByRecursion LeftIsBlank (firsts ps) → AllByRecursion IsBlankPart ps → AllByRecursion (IsSame around) ps
        → cuts_in on around c (q ∷ (x ++ firsts ps)) ≡ cuts_in on around b (q ∷ x) ++ plain_sections ps
    with-blanks c b q x [] l m h g k same = ap (λ r. cuts_in on around c (q ∷ r)) (append-nil x) ∙ cuts-in-fuel on around c b (q ∷ x) (let size = ap (λ (l : List Row). length l) (append-nil x) in omega (arith, l, size)) m ∙ sym (append-nil (cuts_in on around b (q ∷ x)))
    with-blanks c b q x (p ∷ ps) l m h g k same =
        let y = firsts (p ∷ ps) in
        let all = lefts (p ∷ ps) k in
        by (cuts-sections on around any_rows any_place any_place any_placing p.first (firsts ps) (behind_left all) (g.0 k.0.left).2 c b (length y) (q ∷ x) l m (omega arith) (joined-none on no_row no_rows false (q ∷ x) y (left-no-text on no_row no_rows y all g)) h tt)
        ∙ ap (λ l. cuts_in on around b (q ∷ x) ++ l) (left-cuts (length y) y (omega arith) all g ∙ ap plain_sections (sym (blanks-are (p ∷ ps) k same)))
      where
        any_placing : Placing on around any_rows any_place any_place
        any_placing = record { table = λ q x k less. tt; start = λ q x k whole. tt; step = λ p q x k less. tt; last = λ p q x k whole front begin blanks e f g h. tt }

        by : {w f s : List Section} → SectionsJoin any_place around (q ∷ x) p.first (firsts ps) w f s → w ≡ f ++ s
        by (sections_apart e) = e
        by (section_seam t) = let both : true ≡ false = sym k.0.left ∙ t.within.going_on in absurd (cc)

-- ---- rows that goes on with no container
-- a row that goes on with a stretch, without containers
pub record GoesOn (r : Row) : Type 0 where
  pub full : r.is_blank ≡ false
  pub left : r.is_left_blank ≡ false
  pub stays_on : r.stays ≡ true
  pub untabled : is_in_table r ≡ false
  pub bare : IsBare r

-- where rows from one that is not blank to the end may all be in a stretch, they have no containers
abbrev pub BareBehind : List Row → Type 0
BareBehind x = (above : List Row) (q : Row) (more : List Row) → x ≡ above ++ (q ∷ more) → q.is_blank ≡ false → AllStay more → AllByRecursion IsBare (q ∷ more)

-- what is known of the rows from a part on to the end, if they may all be in a stretch
abbrev pub Begun : (Before : List Row → Type 0) → List Row → Type 0
Begun Before x =
    (front : List Part) (begin : Part) (blanks : List Part) → parts x ≡ front ++ (begin ∷ blanks) → x ≡ flat_map all_rows front ++ (begin.first ∷ (begin.more ++ firsts blanks))
    → begin.first.is_blank ≡ false → AllStay (begin.more ++ firsts blanks) → Before (begin.first ∷ (begin.more ++ firsts blanks))

module _ (r : Row) (rs : List Row) (goes : GoesOn r) where
  abbrev y : List Row
  y = r ∷ rs

  -- no container goes on with it
  outside : GoesOnWithNone r
  outside = record { left = goes.left; none = goes.bare.0; no_list = ap list_begun goes.bare.1 }

  -- it stands in no spans
  end-standing : standing r rs ≡ []
  end-standing = (λ i. let all = containers_of (goes.bare.0 i) ++ containers_of (goes.bare.1 i) in cond (goes.full i) (reverse (left_in (going_on_at rs) r.number (reverse all))) all)

  end-frames : frames_at r rs ≡ []
  end-frames = (λ i. let stands = end-standing i in flat_map frames_of stands ++ cond (goes.left i && (length stands == going_on_at rs)) (list_at rs) [])

  module _ (on : Constructs) where
    abbrev top : Part
    top = at_top r

    cut-blanks : (ps : List Part) → AllByRecursion IsBlankPart ps → flat_map (cut on) ps ≡ plain_sections ps
    cut-blanks [] h = refl
    cut-blanks (p ∷ ps) h = (λ i. cond (h.0.blank i) (plain_section p ∷ []) (cuts_in on p (suc (length p.more)) (p.first ∷ p.more)) ++ cut-blanks ps h.1 i)

    cut-full : (p : Part) → p.first.is_blank ≡ false → cut on p ≡ cuts_in on p (suc (length p.more)) (p.first ∷ p.more)
    cut-full p e = ap (λ b. cond b (plain_section p ∷ []) (cuts_in on p (suc (length p.more)) (p.first ∷ p.more))) e

    joined-back : (p : Bool) (above : List Row) (q : Row) (z : List Row) (u v : List Row) → joined p (above ++ (q ∷ z)) (r ∷ u) ≡ joined false (q ∷ z) (r ∷ v)
    joined-back p [] q z u v = joined-first on no_row no_rows (is_paragraph q.leaf) z r u v
    joined-back p (a ∷ above) q z u v = joined-back (is_paragraph a.leaf) above q z u v

    abbrev first-frames : List Part → List Frame
    first-frames [] = []
    first-frames (p ∷ ps) = p.frames

    abbrev first-stands : List Part → List Container
    first-stands [] = []
    first-stands (p ∷ ps) = p.stands

    alone-same : (ps : List Part) → AllByRecursion IsAlone ps → AllByRecursion (IsSame top) ps
    alone-same [] h = tt
    alone-same (p ∷ ps) h = (record { frames = h.0.frames; stands = h.0.stands }, alone-same ps h.1)

    module _ (Before : List Row → Type 0) (Known Place : Bool → List Row → Type 0) (placing : Placing on top Before Known Place) (x : List Row) (begun : Begun Before x) (blank : AllByRecursion LeftIsBlank x) (bare : BareBehind x) (ends : joined false x y ≡ false) where
      abbrev Goal : Type 0
      Goal = SectionsJoin Place top x r rs (sections on (x ++ y)) (sections on x) (sections on y)

      at-seam : Seam frames_at standing x r rs (parts (x ++ y)) (parts x) (parts y) → Goal
      at-seam h =
          let q = h.it.begin.first in
          let inner = h.it.begin.more ++ firsts h.it.blanks in
          let all = q ∷ inner in
          let bares = bare h.above q inner h.rows_are h.it.full h.it.stay in
          let alone : AllByRecursion IsAlone (h.it.begin ∷ h.it.blanks) = subst (AllByRecursion IsAlone) (real-parts h.bound all ∙ h.parts_are) (parts-alone h.bound all bares) in
          let same = alone-same (h.it.begin ∷ h.it.blanks) alone in
          let few = every-back LeftIsBlank h.above all (subst (AllByRecursion LeftIsBlank) h.rows_are blank) in
          let z = h.it.end.more in
          let long = suc (length (joined_part h.it.begin h.it.blanks h.it.end).more) in
          let front = flat_map (cut on) h.front in
          let back = flat_map (cut on) h.back in
          let last = h.it.end.first ∷ z in
          let begin-cut = cuts_in on top (suc (length h.it.begin.more)) (q ∷ h.it.begin.more) in
          let end-cut = cuts_in on top (suc (length z)) last in
          let all-cut = cuts_in on top (length all) all in
          let whole-cut = cuts_in on top long (all ++ last) in
          let end_frames : h.it.end.frames ≡ [] = ap first-frames (sym h.second_is) ∙ end-frames in
          let end_stands : h.it.end.stands ≡ [] = ap first-stands (sym h.second_is) ∙ end-standing in
          let end_full : h.it.end.first.is_blank ≡ false = ap (λ (q : Row). q.is_blank) h.it.end_is ∙ goes.full in
          let whole : sections on (x ++ y) ≡ front ++ (whole-cut ++ back) =
          ap (flat_map (cut on)) h.whole_is
          ∙ flat_map-append (cut on) h.front (joined_part h.it.begin h.it.blanks h.it.end ∷ h.back)
          ∙ ap (λ l. front ++ (l ++ back)) (cut-full (joined_part h.it.begin h.it.blanks h.it.end) h.it.full ∙ cuts-any on long (joined_part h.it.begin h.it.blanks h.it.end) top (all ++ last) same.0.frames same.0.stands) in
          let first : sections on x ≡ front ++ all-cut =
          ap (flat_map (cut on)) h.first_is
          ∙ flat_map-append (cut on) h.front (h.it.begin ∷ h.it.blanks)
          ∙ (λ i. front ++ ((cut-full h.it.begin h.it.full ∙ cuts-any on (suc (length h.it.begin.more)) h.it.begin top (q ∷ h.it.begin.more) same.0.frames same.0.stands) i ++ cut-blanks h.it.blanks h.it.are_blank i))
          ∙ ap (λ l. front ++ l)
          (sym (with-blanks top on (length all) (suc (length h.it.begin.more)) q h.it.begin.more h.it.blanks (omega arith) (omega arith) (every-front LeftIsBlank (q ∷ h.it.begin.more) (firsts h.it.blanks) few) (every-back LeftIsBlank (q ∷ h.it.begin.more) (firsts h.it.blanks) few) h.it.are_blank same.1)) in
          let second : sections on y ≡ end-cut ++ back =
          ap (flat_map (cut on)) h.second_is
          ∙ ap (λ l. l ++ back) (cut-full h.it.end end_full ∙ cuts-any on (suc (length z)) h.it.end top last end_frames end_stands) in
          let tail : Behind h.it.end.first z = subst (λ (q : Row). Behind q z) (sym h.it.end_is) (behind_stays goes.full goes.left goes.stays_on) in
          let apart : joined false all last ≡ false =
          ap (λ (q2 : Row). joined false all (q2 ∷ z)) h.it.end_is ∙ sym (joined-back false h.above q inner rs z) ∙ sym (ap (λ l. joined false l y) h.rows_are) ∙ ends in
          let size : long ≡ length (all ++ last) = refl in
          let untabled : is_in_table h.it.end.first ≡ false = ap is_in_table h.it.end_is ∙ goes.untabled in
          let inside = cuts-sections on top Before Known Place placing h.it.end.first z tail untabled long (length all) (suc (length z)) all (omega arith) (omega arith) (omega arith) apart few (begun h.front h.it.begin h.it.blanks h.first_is (h.rows_are ∙ ap (λ l. l ++ all) h.above_is) h.it.full h.it.stay) in
          joins-same Place top r rs (h.above ++ all) x (front ++ (whole-cut ++ back)) (sections on (x ++ y)) (front ++ all-cut) (sections on x) (end-cut ++ back) (sections on y)
          (sym h.rows_are) (sym whole) (sym first) (sym second)
          (joins-front Place top r rs front h.above all (whole-cut ++ back) all-cut (end-cut ++ back)
          (joins-back Place top r rs all whole-cut all-cut end-cut back (joins-longer Place top r z rs h.end_rows.left h.end_rows.is all whole-cut all-cut end-cut (subst (λ (q : Row). SectionsJoin Place top all q z whole-cut all-cut end-cut) h.it.end_is inside))))

      pub sections-of-joined : Goal
      sections-of-joined =
          let n = length (x ++ y) in
          by (joins-as frames_at standing r rs x x (parts_by frames_at standing n (x ++ y)) (parts (x ++ y)) (parts_by frames_at standing (length x) x) (parts x) (parts_by frames_at standing (length y) y) (parts y)
          refl (sym (real-parts n (x ++ y))) (sym (real-parts (length x) x)) (sym (real-parts (length y) y))
          (parts-join frames_at standing r rs (frames-apart r rs outside) (standing-apart r rs outside) n (length x) (length y) x (omega arith) (omega arith) (omega arith) blank (follows r rs (behind_stays goes.full goes.left goes.stays_on))))
        where
          by : Joins frames_at standing x r rs (parts (x ++ y)) (parts x) (parts y) → Goal
          by (apart e) = sections_apart (ap (flat_map (cut on)) e ∙ flat_map-append (cut on) (parts x) (parts y))
          by (seam h) = at-seam h

-- ==== Sections of a document at a rest where a stretch of lines goes on: those of its parts, but for the section at the seam.
-- a row's columns are those of its prefixes, and its line is whole
pub record IsRead (r : Row) : Type 0 where
  pub columns : r.columns ≡ columns_of r.went_on + columns_of r.begun
  pub whole : IsWhole r.line
  pub blank : r.is_blank ≡ is_blank_line (rest_of r)

-- it goes on with no paragraph that was left
abbrev pub NotLazy : Row → Type 0
NotLazy r = r.is_lazy ≡ false

-- ---- rows without containers
module _ (on : Constructs) where
  pub no-containers : (ps : List Prefix) → containers_of ps ≡ [] → ps ≡ []
  no-containers [] e = refl
  no-containers (p ∷ ps) e = absurd (cc)

  -- where no container is open, none goes on
  pub none-goes : (k : Known) (n : ℕ) (line : Line) → k.before.stack ≡ [] → (row_of on k n line).went_on ≡ []
  none-goes k n line e = ap (λ cs. going_on (take k.before.depth cs) n (text_of line)) e ∙ ap (λ cs. going_on cs n (text_of line)) (take-nil k.before.depth)

  -- no more containers go on than are open
  abbrev pub IsDeep : Known → Type 0
  IsDeep k = k.before.depth ≤ length k.before.stack

  module _ (k : Known) (n : ℕ) (line : Line) where
    abbrev row : Row
    row = row_of on k n line

    abbrev all : List Container
    all = containers_of row.went_on ++ containers_of row.begun

    abbrev next_before : (left lazy : Bool) → Before
    next_before left lazy = cond left (record k.before { depth = length row.went_on; leaf = closed }) (cond lazy (record k.before { leaf = row.leaf }) (record { stack = all; depth = length all; leaf = row.leaf }))

    abbrev next_stack : (left lazy : Bool) → List Container
    next_stack left lazy = (next_before left lazy).stack

    abbrev stays_by : (lazy : Bool) → Bool
    stays_by lazy = has_none row.begun && (lazy || ((length row.went_on == k.before.depth) && (length k.before.stack == k.before.depth)))

    pub left-begins-none : row.is_left_blank ≡ true → row.begun ≡ []
    left-begins-none e = none_is row.begun (and-left (has_none row.begun) (not (row.stays && holds_ending k.before.leaf)) (and-right row.is_blank (has_none row.begun && not (row.stays && holds_ending k.before.leaf)) e))

    pub lazy-begins-none : row.is_lazy ≡ true → row.begun ≡ []
    lazy-begins-none e = none_is row.begun (and-left (has_none row.begun) _ (and-right (not (length row.went_on == k.before.depth)) _ e))

    -- a row that is in a stretch: no container is open before it if none is behind it, and it has none
    pub may-stay : (left lazy : Bool) → row.is_left_blank ≡ left → row.is_lazy ≡ lazy → (left || stays_by lazy) ≡ true → next_stack left lazy ≡ [] → (k.before.stack ≡ []) × IsBare row
    may-stay true lazy el ez s e = (e, (none-goes k n line e, left-begins-none el))
    may-stay false true el ez s e = (e, (none-goes k n line e, lazy-begins-none ez))
    may-stay false false el ez s e =
        let both = none-left (containers_of row.went_on) (containers_of row.begun) e in
        let went = no-containers row.went_on both.0 in
        let on_all = and-right (has_none row.begun) ((length row.went_on == k.before.depth) && (length k.before.stack == k.before.depth)) s in
        let one = eqb-true (length row.went_on) k.before.depth (and-left (length row.went_on == k.before.depth) (length k.before.stack == k.before.depth) on_all) in
        let two = eqb-true (length k.before.stack) k.before.depth (and-right (length row.went_on == k.before.depth) (length k.before.stack == k.before.depth) on_all) in
        let none = ap (λ (ps : List Prefix). length ps) went in
        (nil_from_length k.before.stack (omega (arith, one, two, none)), (went, no-containers row.begun both.1))

    -- any other
    pub full-bare : (left lazy : Bool) → row.is_left_blank ≡ left → row.is_lazy ≡ lazy → row.is_blank ≡ false → next_stack left lazy ≡ [] → IsBare row
    full-bare true lazy el ez full e = let blank = and-left row.is_blank (has_none row.begun && not (row.stays && holds_ending k.before.leaf)) el in absurd (cc)
    full-bare false true el ez full e = (none-goes k n line e, lazy-begins-none ez)
    full-bare false false el ez full e =
        let both = none-left (containers_of row.went_on) (containers_of row.begun) e in
        (no-containers row.went_on both.0, no-containers row.begun both.1)

    pub deep-next : IsDeep k → IsDeep (known_after on k row)
    deep-next h = by row.is_left_blank row.is_lazy
      where
        went : length row.went_on ≤ length k.before.stack
        went = let few = going_few (take k.before.depth k.before.stack) n (text_of line) in let size = length-take k.before.depth k.before.stack in omega (arith, few, size)

        by : (left lazy : Bool) → (next_before left lazy).depth ≤ length (next_before left lazy).stack
        by true lazy = went
        by false true = h
        by false false = omega arith

    -- the leaf behind a line that is not left blank
    pub leaf-next-is : row.is_left_blank ≡ false → (known_after on k row).before.leaf ≡ row.leaf
    leaf-next-is e = by row.is_left_blank e row.is_lazy
      where
        by : (left : Bool) → left ≡ false → (lazy : Bool) → (next_before left lazy).leaf ≡ row.leaf
        by true e lazy = absurd (cc)
        by false e true = refl
        by false e false = refl

    -- where no container is open, a line without containers stays
    pub stays-at-top : IsDeep k → k.before.stack ≡ [] → row.begun ≡ [] → row.stays ≡ true
    stays-at-top deep none begun =
        let went = ap (λ (ps : List Prefix). length ps) (none-goes k n line none) in
        let stack = ap (λ (cs : List Container). length cs) none in
        let one : (length row.went_on == k.before.depth) ≡ true = eq-eqb (length row.went_on) k.before.depth (omega (arith, deep, stack, went)) in
        let two : (length k.before.stack == k.before.depth) ≡ true = eq-eqb (length k.before.stack) k.before.depth (omega (arith, deep, stack)) in
        (λ i. has_none (begun i) && (row.is_lazy || (one i && two i))) ∙ or-true row.is_lazy

    -- behind one that is left blank no block holds its line ending
    left-holds : row.is_left_blank ≡ true → holds_ending row.leaf ≡ false
    left-holds e =
        let plain = without.row_of on k.before n line in
        let tabled = is_row_of_table on k (row_without on k n line) in
        ap (λ left. holds_ending (cond tabled open_table (cond (underlines_nothing on k plain) open_paragraph (cond left closed (cond plain.is_lazy open_paragraph (leaf_after on (cond plain.stays k.before.leaf closed) (rest_of plain))))))) e
        ∙ by tabled (underlines_nothing on k plain)
      where
        by : (w u : Bool) → holds_ending (cond w open_table (cond u open_paragraph closed)) ≡ false
        by true u = refl
        by false true = refl
        by false false = refl

    -- nor before it, where it stays
    before-left : IsDeep k → k.before.stack ≡ [] → row.is_left_blank ≡ true → holds_ending k.before.leaf ≡ false
    before-left deep none e =
        let begun = left-begins-none e in
        let holds = and-right (has_none row.begun) (not (row.stays && holds_ending k.before.leaf)) (and-right row.is_blank (has_none row.begun && not (row.stays && holds_ending k.before.leaf)) e) in
        not-true (holds_ending k.before.leaf) (sym (ap (λ s. not (s && holds_ending k.before.leaf)) (stays-at-top deep none begun)) ∙ holds)

    -- where no container is open, no line is lazy
    pub top-not-lazy : IsDeep k → k.before.stack ≡ [] → NotLazy row
    top-not-lazy deep none =
        let went = ap (λ (ps : List Prefix). length ps) (none-goes k n line none) in
        let stack = ap (λ (cs : List Container). length cs) none in
        let one : (length row.went_on == k.before.depth) ≡ true = eq-eqb (length row.went_on) k.before.depth (omega (arith, deep, stack, went)) in
        ap (λ b. not b && (has_none row.begun && (is_paragraph k.before.leaf && not (interrupts (line_kind on (rest_of row)))))) one

    -- nor is one that is not blank, if none is open behind it
    full-not-lazy : IsDeep k → row.is_blank ≡ false → next_stack row.is_left_blank row.is_lazy ≡ [] → NotLazy row
    full-not-lazy deep full e = by row.is_left_blank refl row.is_lazy refl e
      where
        by : (left : Bool) → row.is_left_blank ≡ left → (lazy : Bool) → row.is_lazy ≡ lazy → next_stack left lazy ≡ [] → NotLazy row
        by left el false ez e = ez
        by true el true ez e = let empty = and-left row.is_blank (has_none row.begun && not (row.stays && holds_ending k.before.leaf)) el in absurd (cc)
        by false el true ez e = top-not-lazy deep e

    -- a line of a stretch begins no container
    pub stays-begins-none : may_stay row ≡ true → row.begun ≡ []
    stays-begins-none h = by row.is_left_blank refl h
      where
        by : (left : Bool) → row.is_left_blank ≡ left → (left || row.stays) ≡ true → row.begun ≡ []
        by true el s = left-begins-none el
        by false el s = none_is row.begun (and-left (has_none row.begun) _ s)

    -- then none is open behind it if none is before it
    pub next-none : k.before.stack ≡ [] → row.begun ≡ [] → (known_after on k row).before.stack ≡ []
    next-none none begun = by row.is_left_blank row.is_lazy
      where
        by : (left lazy : Bool) → next_stack left lazy ≡ []
        by true lazy = none
        by false true = none
        by false false = (λ i. containers_of (none-goes k n line none i) ++ containers_of (begun i))

  -- rows that may all be in a stretch, behind which no container is open
  pub all-bare : (k : Known) (n : ℕ) (ls : List Line) → AllStay (rows_from on k n ls) → (known_behind on k n ls).before.stack ≡ [] → (k.before.stack ≡ []) × AllByRecursion IsBare (rows_from on k n ls)
  all-bare k n [] h e = (e, tt)
  all-bare k n (line ∷ ls) h e =
      let r = row_of on k n line in
      let rest = all-bare (known_after on k r) (suc n) ls h.1 e in
      let here = may-stay k n line r.is_left_blank r.is_lazy refl refl h.0 rest.0 in
      (here.0, (here.1, rest.1))

  pub first-of : (q r : Row) (qs rs : List Row) → q ∷ qs ≡ r ∷ rs → (q ≡ r) × (qs ≡ rs)
  first-of q r qs rs e = (cc, cc)

  pub bare-from : (k : Known) (n : ℕ) (ls : List Line) → (known_behind on k n ls).before.stack ≡ [] → BareBehind (rows_from on k n ls)
  bare-from k n [] e [] q more is full stay = absurd (cc)
  bare-from k n [] e (a ∷ above) q more is full stay = absurd (cc)
  bare-from k n (line ∷ ls) e [] q more is full stay =
      let r = row_of on k n line in
      let both = first-of r q (rows_from on (known_after on k r) (suc n) ls) more is in
      let rest = all-bare (known_after on k r) (suc n) ls (subst AllStay (sym both.1) stay) e in
      let here = full-bare k n line r.is_left_blank r.is_lazy refl refl (ap (λ (q : Row). q.is_blank) both.0 ∙ full) rest.0 in
      (subst IsBare both.0 here, subst (AllByRecursion IsBare) both.1 rest.1)
  bare-from k n (line ∷ ls) e (a ∷ above) q more is full stay =
      let r = row_of on k n line in
      bare-from (known_after on k r) (suc n) ls e above q more (first-of r a (rows_from on (known_after on k r) (suc n) ls) (above ++ (q ∷ more)) is).1 full stay

  -- behind the last of lines before blank lines, and before a line that goes on
  last-holds : (k : Known) (n : ℕ) (ls : List Line) (q : Row) (more bs : List Row) → rows_from on k n ls ≡ q ∷ (more ++ bs) → IsDeep k → AllStay (more ++ bs) → AllLeft bs → (known_behind on k n ls).before.stack ≡ [] → is_closed (known_behind on k n ls).before.leaf ≡ true
      → holds_ending (last_of q more).leaf ≡ false
  last-holds k n [] q more bs e deep stay left none shut = absurd (cc)
  last-holds k n (line ∷ ls) q (m ∷ more) bs e deep stay left none shut =
      let r = row_of on k n line in
      last-holds (known_after on k r) (suc n) ls m more bs (first-of r q (rows_from on (known_after on k r) (suc n) ls) (m ∷ (more ++ bs)) e).1 (deep-next k n line deep) stay.1 left none shut
  last-holds k n (line ∷ ls) q [] bs e deep stay left none shut =
      let r = row_of on k n line in
      let both = first-of r q (rows_from on (known_after on k r) (suc n) ls) bs e in
      sym (ap (λ (q : Row). holds_ending q.leaf) both.0) ∙ by r.is_left_blank refl ls bs both.1 stay left none shut
    where
      r : Row
      r = row_of on k n line

      next : Known
      next = known_after on k r

      by : (b : Bool) → r.is_left_blank ≡ b → (ls : List Line) (bs : List Row) → rows_from on next (suc n) ls ≡ bs → AllStay bs → AllLeft bs → (known_behind on next (suc n) ls).before.stack ≡ [] → is_closed (known_behind on next (suc n) ls).before.leaf ≡ true → holds_ending r.leaf ≡ false
      by true e ls bs is stay left none shut = left-holds k n line e
      by false e [] bs is stay left none shut = ap holds_ending (sym (leaf-next-is k n line e) ∙ closed-is next.before.leaf shut)
      by false e (l ∷ ls) [] is stay left none shut = absurd (cc)
      by false e (l ∷ ls) (b ∷ bs) is stay left none shut =
          let s = row_of on next (suc n) l in
          let parts = first-of s b (rows_from on (known_after on next s) (suc (suc n)) ls) bs is in
          let rest = all-bare next (suc n) (l ∷ ls) (subst AllStay (sym is) stay) none in
          ap holds_ending (sym (leaf-next-is k n line e)) ∙ before-left next (suc n) l (deep-next k n line deep) rest.0 (ap (λ (q : Row). q.is_left_blank) parts.0 ∙ left.0)

  -- the same from a line further on
  pub last-holds-from : (k : Known) (n : ℕ) (ls : List Line) (above : List Row) (q : Row) (more bs : List Row) → rows_from on k n ls ≡ above ++ (q ∷ (more ++ bs)) → IsDeep k → AllStay (more ++ bs) → AllLeft bs → (known_behind on k n ls).before.stack ≡ []
      → is_closed (known_behind on k n ls).before.leaf ≡ true → holds_ending (last_of q more).leaf ≡ false
  last-holds-from k n ls [] q more bs e deep stay left none shut = last-holds k n ls q more bs e deep stay left none shut
  last-holds-from k n [] (a ∷ above) q more bs e deep stay left none shut = absurd (cc)
  last-holds-from k n (line ∷ ls) (a ∷ above) q more bs e deep stay left none shut =
      let r = row_of on k n line in
      last-holds-from (known_after on k r) (suc n) ls above q more bs (first-of r a (rows_from on (known_after on k r) (suc n) ls) (above ++ (q ∷ (more ++ bs))) e).1 (deep-next k n line deep) stay left none shut

  -- ---- what holds of each row
  pub all-read : (k : Known) (n : ℕ) (ls : List Line) → AllByRecursion IsWhole ls → AllByRecursion IsRead (rows_from on k n ls)
  all-read k n [] h = tt
  all-read k n (line ∷ ls) h = (record { columns = refl; whole = h.0; blank = refl }, all-read (known_after on k (row_of on k n line)) (suc n) ls h.1)

  module _ (m bytes : ℕ) where
    pub columns-read : (k : Known) (n : ℕ) (ls : List Line) → AllByRecursion (λ (r : Row). r.columns ≡ columns_of r.went_on + columns_of r.begun) (map (moved_row m bytes) (rows_from on k n ls))
    columns-read k n [] = tt
    columns-read k n (line ∷ ls) =
        let r = row_of on k n line in
        ((λ i. sym (columns-moved m r.went_on) i + sym (columns-moved m r.begun) i), columns-read (known_after on k r) (suc n) ls)

    -- lines of a stretch behind one without containers have none
    pub ahead-bare : (k : Known) (n : ℕ) (ls : List Line) (more left : List Row) → k.before.stack ≡ [] → map (moved_row m bytes) (rows_from on k n ls) ≡ more ++ left → AllStay more → AllByRecursion IsBare more
    ahead-bare k n ls [] left none e stay = tt
    ahead-bare k n [] (q ∷ more) left none e stay = absurd (cc)
    ahead-bare k n (line ∷ ls) (q ∷ more) left none e stay =
        let r = row_of on k n line in
        let both = first-of (moved_row m bytes r) q (map (moved_row m bytes) (rows_from on (known_after on k r) (suc n) ls)) (more ++ left) e in
        let here = by r.is_left_blank r.is_lazy refl refl (ap may_stay both.0 ∙ stay.0) in
        ((sym (ap (λ (q : Row). q.went_on) both.0) ∙ ap (map (moved_prefix m)) here.1.0, sym (ap (λ (q : Row). q.begun) both.0) ∙ ap (map (moved_prefix m)) here.1.1), ahead-bare (known_after on k r) (suc n) ls more left here.0 both.1 stay.1)
      where
        r : Row
        r = row_of on k n line

        by : (left lazy : Bool) → r.is_left_blank ≡ left → r.is_lazy ≡ lazy → (left || (has_none r.begun && (lazy || ((length r.went_on == k.before.depth) && (length k.before.stack == k.before.depth))))) ≡ true → ((next_before k n line left lazy).stack ≡ []) × IsBare r
        by true lazy el ez s = (none, (none-goes k n line none, left-begins-none k n line el))
        by false true el ez s = (none, (none-goes k n line none, lazy-begins-none k n line ez))
        by false false el ez s =
            let went = none-goes k n line none in
            let begun = none_is r.begun (and-left (has_none r.begun) ((length r.went_on == k.before.depth) && (length k.before.stack == k.before.depth)) s) in
            ((λ i. containers_of (went i) ++ containers_of (begun i)), (went, begun))

  -- ---- rows that may all be in a stretch, behind which no container is open
  all-not-lazy : (k : Known) (n : ℕ) (ls : List Line) → IsDeep k → AllStay (rows_from on k n ls) → (known_behind on k n ls).before.stack ≡ [] → AllByRecursion NotLazy (rows_from on k n ls)
  all-not-lazy k n [] deep h e = tt
  all-not-lazy k n (line ∷ ls) deep h e =
      let next = known_after on k (row_of on k n line) in
      (top-not-lazy k n line deep (all-bare k n (line ∷ ls) h e).0, all-not-lazy next (suc n) ls (deep-next k n line deep) h.1 e)

  -- and a row before them that is not blank
  pub behind-not-lazy : (k : Known) (n : ℕ) (ls : List Line) → IsDeep k → (known_behind on k n ls).before.stack ≡ [] → (above : List Row) (q : Row) (more : List Row) → rows_from on k n ls ≡ above ++ (q ∷ more) → q.is_blank ≡ false → AllStay more → AllByRecursion NotLazy (q ∷ more)
  behind-not-lazy k n [] deep e [] q more is full stay = absurd (cc)
  behind-not-lazy k n [] deep e (a ∷ above) q more is full stay = absurd (cc)
  behind-not-lazy k n (line ∷ ls) deep e [] q more is full stay =
      let r = row_of on k n line in
      let next = known_after on k r in
      let both = first-of r q (rows_from on next (suc n) ls) more is in
      let stays = subst AllStay (sym both.1) stay in
      let here = full-not-lazy k n line deep (ap (λ (q : Row). q.is_blank) both.0 ∙ full) (all-bare next (suc n) ls stays e).0 in
      (subst NotLazy both.0 here, subst (AllByRecursion NotLazy) both.1 (all-not-lazy next (suc n) ls (deep-next k n line deep) stays e))
  behind-not-lazy k n (line ∷ ls) deep e (a ∷ above) q more is full stay =
      let r = row_of on k n line in
      let next = known_after on k r in
      behind-not-lazy next (suc n) ls (deep-next k n line deep) e above q more (first-of r a (rows_from on next (suc n) ls) (above ++ (q ∷ more)) is).1 full stay

  -- ---- lines of a stretch, moved, before which no container is open: what holds of each of them, by what is known before it
  module _ (m bytes : ℕ) (P : Row → Type 0) (Q : Known → Type 0) (later : (k : Known) (n : ℕ) (line : Line) → Q k → Q (known_after on k (row_of on k n line)))
      (here : (k : Known) (n : ℕ) (line : Line) → IsDeep k → k.before.stack ≡ [] → Q k → (row_of on k n line).begun ≡ [] → P (moved_row m bytes (row_of on k n line))) where
    pub ahead-all : (k : Known) (n : ℕ) (ls : List Line) (more left : List Row) → IsDeep k → k.before.stack ≡ [] → Q k → map (moved_row m bytes) (rows_from on k n ls) ≡ more ++ left → AllStay more → AllByRecursion P more
    ahead-all k n ls [] left deep none known e stay = tt
    ahead-all k n [] (q ∷ more) left deep none known e stay = absurd (cc)
    ahead-all k n (line ∷ ls) (q ∷ more) left deep none known e stay =
        let r = row_of on k n line in
        let next = known_after on k r in
        let both = first-of (moved_row m bytes r) q (map (moved_row m bytes) (rows_from on next (suc n) ls)) (more ++ left) e in
        let begun = stays-begins-none k n line (ap may_stay both.0 ∙ stay.0) in
        (subst P both.0 (here k n line deep none known begun), ahead-all next (suc n) ls more left (deep-next k n line deep) (next-none k n line none begun) (later k n line known) both.1 stay.1)

  -- ---- at a rest
  module _ (bytes : ℕ) (before : List Line) (line : Line) (behind : List Line) (rest : is_at_document_rest on before line ≡ true) (goes : goes_on_behind on before (line ∷ behind) ≡ true) where
    abbrev n : ℕ
    n = length before

    abbrev start : Known
    start = known_at_start on

    abbrev known : Known
    known = known_behind on start 1 before

    abbrev first : Row
    first = row_of on start 1 line

    abbrev moved : Row
    moved = moved_row n bytes (record first { stays = true })

    abbrev others : List Row
    others = map (moved_row n bytes) (rows_from on (known_after on start first) 2 behind)

    at-end : (known.before.stack ≡ []) × (has_none first.begun ≡ true)
    at-end = stretches-go-on-at-top on before line rest goes

    row-is : row_of on known (suc n) (moved_line n bytes line) ≡ moved
    row-is = first-row on n bytes known (suc n) line (omega arith) rest ∙ ap (λ s. moved_row n bytes (record first { stays = s })) goes

    there : begins_anew on known (suc n) (moved_line n bytes line) ≡ true
    there = anew-same on known (suc n) (moved_line n bytes line) line (text-moved n bytes line) ∙ rest

    -- the line at the rest goes on with a stretch, without containers
    pub goes-on : GoesOn moved
    goes-on =
        let at = starts on (open-not-blank on) known (suc n) (moved_line n bytes line) there in
        let new = begins-anew on (suc n) (moved_line n bytes line) known there in
        let is = row-is in
        record {
          full = ap (λ (r : Row). r.is_blank) (sym is) ∙ at.full (ap (λ (r : Row). r.stays) is);
          left = ap (λ (r : Row). r.is_left_blank) (sym is) ∙ at.left;
          stays_on = refl;
          untabled = anew-untabled on (open-not-blank on) start 1 line refl;
          bare = (ap (λ (r : Row). r.went_on) (sym is) ∙ ap (λ (r : Row). r.went_on) new.row, ap (map (moved_prefix n)) (none_is first.begun at-end.1));
        }

    -- a document's first line goes on with a stretch if it begins no container
    pub first-is : record first { stays = true } ≡ first
    first-is = (λ i. record first { stays = sym (ap (λ b. b && true) at-end.1) i })

    rows-apart : joined false (rows on before) (moved ∷ others) ≡ false
    rows-apart =
        joined-known on (open-not-blank on) start 1 before (moved ∷ others) false refl
        ∙ ap (λ leaf. is_paragraph leaf && begins_text (moved ∷ others)) (closed-is known.before.leaf (and-left (is_closed known.before.leaf) _ rest))

    -- by what is known of the rows before
    module _ (Before : List Row → Type 0) (Known Place : Bool → List Row → Type 0) (placing : Placing on (at_top moved) Before Known Place) (begun : Begun Before (rows on before)) where
      pub sections-at-seam : SectionsJoin Place (at_top moved) (rows on before) moved others (sections on (rows on before ++ (moved ∷ others))) (sections on (rows on before)) (map (moved_section n bytes) (sections on (rows on (line ∷ behind))))
      sections-at-seam =
          let moves : sections on (moved ∷ others) ≡ map (moved_section n bytes) (sections on (rows on (line ∷ behind))) =
          sections-move on n bytes (record first { stays = true } ∷ rows_from on (known_after on start first) 2 behind)
          ∙ ap (λ (r : Row). map (moved_section n bytes) (sections on (r ∷ rows_from on (known_after on start first) 2 behind))) first-is in
          subst (λ ss. SectionsJoin Place (at_top moved) (rows on before) moved others (sections on (rows on before ++ (moved ∷ others))) (sections on (rows on before)) ss) moves
          (sections-of-joined moved others goes-on on Before Known Place placing (rows on before) begun (rows-left on (open-not-blank on) start 1 before) (bare-from start 1 before at-end.0) rows-apart)

-- ---- in bytes
module _ (Place : Bool → List Row → Type 0) (x : List Row) (whole first second : List Section) where
  abbrev JoinAt : List Row → Type 0
  JoinAt [] = Unit {0}
  JoinAt (q ∷ qs) = SectionsJoin Place (at_top q) x q qs whole first second

module _ (on : Constructs) (Before : List Row → Type 0) (Known Place : Bool → List Row → Type 0) (placing : (around : Part) → Placing on around Before Known Place) where
  pub at-lines : (bytes n : ℕ) (before behind : List Line) → n ≡ length before → Begun Before (rows on before) → first_at_document_rest on before behind ≡ true → goes_on_behind on before behind ≡ true
      → JoinAt Place (rows on before) (sections on (rows on before ++ map (moved_row n bytes) (first_stays true (rows on behind)))) (sections on (rows on before)) (map (moved_section n bytes) (sections on (rows on behind))) (map (moved_row n bytes) (rows on behind))
  at-lines bytes n before [] e begun rest goes = tt
  at-lines bytes n before (line ∷ behind) e begun rest goes =
      subst (λ m. JoinAt Place (rows on before) (sections on (rows on before ++ map (moved_row m bytes) (first_stays true (rows on (line ∷ behind))))) (sections on (rows on before)) (map (moved_section m bytes) (sections on (rows on (line ∷ behind)))) (map (moved_row m bytes) (rows on (line ∷ behind)))) (sym e)
      (subst (JoinAt Place (rows on before) (sections on (rows on before ++ map (moved_row (length before) bytes) (first_stays true (rows on (line ∷ behind))))) (sections on (rows on before)) (map (moved_section (length before) bytes) (sections on (rows on (line ∷ behind)))))
      (λ i. moved_row (length before) bytes (first-is on bytes before line behind rest goes i) ∷ others on bytes before line behind rest goes)
      (sections-at-seam on bytes before line behind rest goes Before Known Place (placing (at_top (moved on bytes before line behind rest goes))) begun))

  -- with what is known of the rows before
  pub sections-placed : (t : ℕ) (a b : List ℕ) → Begun Before (document_rows on t a) → begins_at_document_rest on t a b ≡ true → goes_on_behind on (lines_in (virtual t a)) (lines_in (virtual t b)) ≡ true
      → (r : Row) (rs : List Row) → map (moved_row (line_endings a) (length a)) (document_rows on t b) ≡ r ∷ rs
      → SectionsJoin Place (at_top r) (document_rows on t a) r rs (sections on (document_rows on t (a ++ b))) (sections on (document_rows on t a)) (map (moved_section (line_endings a) (length a)) (sections on (document_rows on t b)))
  sections-placed t a b begun rest goes r rs is =
      let one = lines_in (virtual t a) in
      let two = lines_in (virtual t b) in
      let n = line_endings a in
      let begins = and-left (begins_line b a) (first_at_document_rest on one two) rest in
      let whole : sections on (rows on (lines_in (virtual t (a ++ b)))) ≡ sections on (rows on one ++ map (moved_row n (length a)) (first_stays true (rows on two))) =
      ap (sections on) (document-rows-of-both on t a b rest)
      ∙ ap (λ stays. sections on (rows on one ++ map (moved_row n (length a)) (first_stays stays (rows on two)))) goes in
      subst (JoinAt Place (rows on one) (sections on (rows on (lines_in (virtual t (a ++ b))))) (sections on (rows on one)) (map (moved_section n (length a)) (sections on (rows on two)))) is
      (subst (λ ss. JoinAt Place (rows on one) ss (sections on (rows on one)) (map (moved_section n (length a)) (sections on (rows on two))) (map (moved_row n (length a)) (rows on two))) (sym whole)
      (at-lines (length a) n one two (counted t a b begins) begun (and-right (begins_line b a) (first_at_document_rest on one two) rest) goes))
