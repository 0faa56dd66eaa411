-- The stretch at a seam: its parts, its rows, and its last line.
use Rattle.std.proofs.Common.{Bool, List, None, Some, [], ap, arith, cond, drop, false, leb-true, length, map, nat_le, not, refl, subst, suc, sym, take, true, zero, ℕ, ◌&&◌, ◌++◌, ◌+◌, ◌<◌, ◌==◌, ◌∙◌, ◌∷◌, ◌≡◌, ◌≤◌}
use Rattle.std.proofs.Math.Bool.{and-false}
use Rattle.std.proofs.Math.Seq.{drop-nil}
use Rattle.std.proofs.lemmas.Bool.{false≢true}
use Rattle.std.proofs.lemmas.Bool.Decides.{nat_tests}
use Rattle.std.proofs.lemmas.Grind.{flat_map-append}
use Rattle.std.proofs.lemmas.List.{length-drop, map-append}
use Rattle.std.proofs.lemmas.List.Folds.{list_any-append}
use Rattle.std.specs.List.{AllByRecursion, flat_map, list_any}
use Rattle.std.specs.Prelude.{◌||◌, is_some}
use Rattle.markdown_base.proofs.Common.{every-append}
use Rattle.markdown_base.specs.Virtual.{Seat, virtual}
use Rattle.markdown_base.specs.declared.configuration.Constructs.{Constructs}
use Rattle.markdown_base.specs.declared.event.Name.TheVariants as name
use Rattle.mdconstructs_tables.specs.Breaks.{is_white}
use Rattle.mdconstructs_machines.specs.LineEvents.{ending_of, line_text, lines_in}
use Rattle.mdinline_labels.specs.Definitions.{definitions}
use Rattle.mdblock_leaf_blocks.specs.HtmlLines.{ends, waits_for_blank}
use Rattle.mdblock_leaf_blocks.specs.LeafBlocks.{Line, blank_line, interrupts, text_of}
use Rattle.mdblock_leaf_blocks.specs.LeafEvents.{Mark, last_end, leaf_block_marks, leaf_blocks_marks, leaf_marks}
use Rattle.mdblock_leaf_blocks.specs.LineKinds.{Fence, LineKind, closes, fence, html, indent, is_blank_line, line_kind, underline_rank}
use Rattle.mdblock_containers.proofs.FrameFacts.{none_is}
use Rattle.mdblock_containers.proofs.SkeletonChains.{Runs, idle}
use Rattle.mdblock_containers.proofs.TightMarks.{Tight, leaf_tight, tight_more}
use Rattle.mdblock_containers.specs.Letters.{letter, lettered_seat}
use Rattle.mdblock_containers.specs.Prefixes.{containers_of}
use Rattle.mdblock_containers.specs.Rows as without
use Rattle.mdblock_containers.specs.Rows.{Before, Leaf, Row, closed, has_none, holds_ending, is_paragraph, is_table, leaf_after, open_fence, open_html, open_paragraph, opened_by, rest_of, open_table}
use Rattle.mdblock_containers.specs.Skeleton.{Part, frames_at, further, is_held, last_of, parts_in, standing}
use Rattle.mdblock_definitions.proofs.Covered.{rows_of, sections-hold-lines}
use Rattle.mdblock_definitions.proofs.KnownReads.{fourth-fails}
use Rattle.mdblock_definitions.specs.Rows.{Known, begins_table, is_row_of_table, is_used_up, known_after, row_of, row_without, rows, rows_from, underlines_nothing}
use Rattle.mdblock_tables.specs.Tables.{is_row}
use Rattle.mdblock_definitions.specs.Sections.{Section, before_defined, cut, defined_in, defining, is_in_table, lines, paragraph_of, sections, sections_in, sections_of_cut, text_in, undefined}
use Rattle.mdblock_table_marks.specs.TableCuts.{before_table, begins_in_table, table_lines, tabled}
use Rattle.mddocument_parts.proofs.CutsJoined.{cuts, pieces}
use Rattle.mdblock_definitions.specs.Skeleton.{all_rows, text_begin}
use Rattle.mddocument_parts.proofs.BlocksJoin.{AreWhole}
use Rattle.mddocument_parts.proofs.DocumentRests.{stretches-go-on-at-top}
use Rattle.mddocument_parts.proofs.JoinedDocument.{IsDeep, NotLazy, ahead-all, behind-not-lazy, deep-next, goes-on, next-none, stays-at-top, top-not-lazy}
use Rattle.mddocument_parts.proofs.JoinedMarks.{lines_of}
use Rattle.mddocument_parts.proofs.MovedBlocks.{text-moved}
use Rattle.mddocument_parts.proofs.StretchStarts.{rows-lines}
use Rattle.mddocument_parts.proofs.WithoutContainers.CutOff.{IsPlain, plain-blanks, plain-end}
use Rattle.mddocument_parts.proofs.WithoutContainers.Leaves.{HasText, closing-text, ends-none, fence-long, last_line}
use Rattle.mddocument_parts.specs.DocumentRests.{goes_on_behind, is_at_document_rest, known_at_start, known_behind, moved_row}
use Rattle.mddocument_parts.specs.JoinedStretches.{SectionSeam, at_top, firsts, joined_part, marks_between}
use Rattle.mddocument_parts.specs.Moved.{moved_line}
use Rattle.mddocument_parts.specs.MovedSections.{moved_section}

-- ==== Parts of a stretch that goes on over a rest: it begins with text, its first line may have a letter in front, and what stands between both stretches has no chunk.
-- ---- a line with text
-- behind its white space there is a byte
pub some-text : (t : List ℕ) → is_blank_line t ≡ false → indent t < length t
some-text [] h = absurd (false≢true (sym h))
some-text (b ∷ bs) h = by (is_white b) refl (some-text bs)
  where
    by : (x : Bool) → is_white b ≡ x → (is_blank_line bs ≡ false → indent bs < length bs) → indent (b ∷ bs) < suc (length bs)
    by true e rest =
        let more = rest (sym (ap (λ x. x && is_blank_line bs) e) ∙ h) in
        let size : indent (b ∷ bs) ≡ 1 + indent bs = ap (λ x. cond x (1 + indent bs) 0) e in
        omega (arith, more, size)
    by false e rest = let none : indent (b ∷ bs) ≡ 0 = ap (λ x. cond x (1 + indent bs) 0) e in omega (arith, none)

-- ---- a letter in front
-- a line that begins with a letter has its text
letter-first : (at : List ℕ) (s : Seat) (ss : List Seat) → list_any (λ i. i == s.point.index) at ≡ true → text_of (map (lettered_seat at) (s ∷ ss)) ≡ letter ∷ text_of (map (lettered_seat at) ss)
letter-first at s ss h =
    let first : lettered_seat at s ≡ record s { byte = letter } = ap (λ b. record s { byte = cond b letter s.byte }) h in
    ap (λ x. text_of (x ∷ map (lettered_seat at) ss)) first

has-one : (n : ℕ) (xs ys zs : List ℕ) → list_any (λ i. i == n) ((xs ++ (n ∷ ys)) ++ zs) ≡ true
has-one n xs ys zs = let test : ℕ → Bool = λ i. i == n in rw (list_any-append test (xs ++ (n ∷ ys)) zs, list_any-append test xs (n ∷ ys)) (grind (arith, nat_tests))

-- directly behind definitions the letter stands where the text begins
pub letter-in-front : (q : Row) (before behind at : List ℕ) → q.columns ≡ 0 → at ≡ (before ++ text_begin q) ++ behind → indent (rest_of q) < length q.line
    → (rest : List ℕ) × (text_of (map (lettered_seat at) (drop (indent (rest_of q)) q.line)) ≡ letter ∷ rest)
letter-in-front q before behind at columns is few = by (drop n q.line) refl
  where
    n : ℕ
    n = indent (rest_of q)

    first : text_begin q ≡ map (λ (s : Seat). s.point.index) (take 1 (drop n q.line))
    first =
        let none : q.columns + n ≡ n = omega (arith, columns) in
        ap (λ m. map (λ (s : Seat). s.point.index) (take 1 (drop m q.line))) none

    by : (l : Line) → drop n q.line ≡ l → (rest : List ℕ) × (text_of (map (lettered_seat at) l) ≡ letter ∷ rest)
    by [] e = absurd (let size = length-drop n q.line in let none = ap (λ (l : Line). length l) e in omega (arith, size, none, few))
    by (s ∷ ss) e =
        let here : text_begin q ≡ s.point.index ∷ [] = first ∙ ap (λ (l : Line). map (λ (s : Seat). s.point.index) (take 1 l)) e in
        let listed : list_any (λ i. i == s.point.index) at ≡ true = ap (list_any (λ i. i == s.point.index)) (is ∙ ap (λ l. (before ++ l) ++ behind) here) ∙ has-one s.point.index before [] behind in
        (text_of (map (lettered_seat at) ss), letter-first at s ss listed)

-- ---- what stands between
pub between-plain : (bytes : List ℕ) (before blanks : List Line) → AllByRecursion IsPlain (marks_between bytes before blanks)
between-plain bytes before blanks = every-append IsPlain (last_end bytes before) (leaf_blocks_marks bytes (map blank_line blanks)) (plain-end bytes before) (plain-blanks bytes blanks)

plain-runs : (ms : List Mark) → AllByRecursion IsPlain ms → Runs ms idle
plain-runs [] h = tt
plain-runs ((e, None) ∷ ms) h = (h.0.1, plain-runs ms h.1)
plain-runs ((e, Some chunk) ∷ ms) h = absurd (cc)

pub between-whole : (bytes : List ℕ) (before blanks : List Line) → AreWhole (marks_between bytes before blanks)
between-whole bytes before blanks = record {
  runs = plain-runs (marks_between bytes before blanks) (between-plain bytes before blanks);
  tight = tight_more (last_end bytes before) (leaf_blocks_marks bytes (map blank_line blanks)) (last before) (all blanks);
}
  where
    last : (ls : List Line) → Tight (last_end bytes ls)
    last [] = tt
    last (l ∷ []) = leaf_tight bytes name.LineEnding (ending_of l)
    last (l ∷ m ∷ ls) = last (m ∷ ls)

    all : (ls : List Line) → Tight (leaf_blocks_marks bytes (map blank_line ls))
    all [] = tt
    all (l ∷ ls) =
        tight_more (leaf_block_marks bytes (blank_line l)) (leaf_blocks_marks bytes (map blank_line ls))
        (tight_more (leaf_marks bytes name.SpaceOrTab (line_text l)) (leaf_marks bytes name.BlankLineEnding (ending_of l)) (leaf_tight bytes name.SpaceOrTab (line_text l)) (leaf_tight bytes name.BlankLineEnding (ending_of l))) (all ls)

-- ---- the lines of a document around a section
pub lines-around : (on : Constructs) (t : ℕ) (bytes : List ℕ) (front back : List Section) (section : Section)
    → sections on (rows on (lines_in (virtual t bytes))) ≡ front ++ (section ∷ back)
    → lines_in (virtual t bytes) ≡ lines_of (rows_of front) ++ (lines_of (all_rows section.part) ++ lines_of (rows_of back))
lines-around on t bytes front back section e =
    let ls = lines_in (virtual t bytes) in
    sym (rows-lines on (known_at_start on) 1 ls) ∙ ap lines_of (sym (sections-hold-lines on (rows on ls)) ∙ ap rows_of e ∙ flat_map-append (λ (s : Section). all_rows s.part) front (section ∷ back))
    ∙ map-append (λ (r : Row). r.line) (rows_of front) (all_rows section.part ++ rows_of back)
    ∙ ap (λ l. lines_of (rows_of front) ++ l) (map-append (λ (r : Row). r.line) (all_rows section.part) (rows_of back))

-- a joined section has the lines of both stretches
pub joined-lines : (begin : Part) (blanks : List Part) (end : Part)
    → lines_of (all_rows (joined_part begin blanks end)) ≡ (lines_of (begin.first ∷ begin.more) ++ lines_of (firsts blanks)) ++ lines_of (end.first ∷ end.more)
joined-lines begin blanks end =
    ap (λ l. begin.first.line ∷ l) (map-append (λ (r : Row). r.line) (begin.more ++ firsts blanks) (end.first ∷ end.more) ∙ ap (λ l. l ++ lines_of (end.first ∷ end.more)) (map-append (λ (r : Row). r.line) begin.more (firsts blanks)))

-- ==== The last line of a stretch at a seam: it has text, if the stretch does not hold its line ending.
-- ---- the last of rows
of-last : (P : Row → Type 0) (q : Row) (more : List Row) → P q → AllByRecursion P more → P (last_of q more)
of-last P q [] h k = h
of-last P q (r ∷ more) h k = of-last P r more k.0 k.1

last-line-is : (q : Row) (more : List Row) → last_line (lines_of (q ∷ more)) ≡ (last_of q more).line
last-line-is q [] = refl
last-line-is q (r ∷ more) = last-line-is r more

-- the last of the further lines of a stretch is not left blank
further-kept : (rs : List Row) (q : Row) → 1 ≤ further rs → (last_of q (take (further rs) rs)).is_left_blank ≡ false
further-kept [] q some = absurd (omega (arith, some))
further-kept (r ∷ rs) q some = by r.is_left_blank refl r.stays (further rs) (nat_le 1 (further rs)) refl (further-kept rs) some
  where
    by : (left : Bool) → r.is_left_blank ≡ left → (stays : Bool) (n : ℕ) (c : Bool) → nat_le 1 n ≡ c → ((q : Row) → 1 ≤ n → (last_of q (take n rs)).is_left_blank ≡ false)
        → 1 ≤ cond left (cond c (suc n) 0) (cond stays (suc n) 0) → (last_of q (take (cond left (cond c (suc n) 0) (cond stays (suc n) 0)) (r ∷ rs))).is_left_blank ≡ false
    by true e stays n true s k some = k r (leb-true 1 n s)
    by true e stays n false s k some = absurd (omega (arith, some))
    by false e true zero c s k some = e
    by false e true (suc n) c s k some = k r (omega arith)
    by false e false n c s k some = absurd (omega (arith, some))

part-kept : (row : Row) (rs : List Row) → row.is_left_blank ≡ false → (last_of row (take (cond row.is_blank 0 (further rs)) rs)).is_left_blank ≡ false
part-kept row rs left = by row.is_blank (further rs) (further-kept rs row)
  where
    by : (b : Bool) (n : ℕ) → (1 ≤ n → (last_of row (take n rs)).is_left_blank ≡ false) → (last_of row (take (cond b 0 n) rs)).is_left_blank ≡ false
    by true n k = left
    by false zero k = left
    by false (suc n) k = k (omega arith)

-- ---- so it is with the first section of rows, if leaf blocks are read from it
abbrev IsKept : Section → Type 0
IsKept s = s.inside ≡ lines false → (last_of s.part.first s.part.more).is_left_blank ≡ false

abbrev FirstKept : List Section → Type 0
FirstKept [] = ⊥
FirstKept (s ∷ ss) = IsKept s

kept-append : (xs ys : List Section) → FirstKept xs → FirstKept (xs ++ ys)
kept-append [] ys h = absurd h
kept-append (x ∷ xs) ys h = h

module _ (on : Constructs) where
  first-kept : (bound : ℕ) (around : Part) (row : Row) (rows : List Row) → row.is_left_blank ≡ false → FirstKept (sections_in on (suc bound) false around (row ∷ rows))
  first-kept bound around row rows left = by (nat_le 1 (defined_in on all)) refl
    where
      all : List Row
      all = row ∷ rows

      m : ℕ
      m = before_defined on (is_paragraph row.leaf) rows

      with_definitions : (d : ℕ) → (behind : List Row) → List Section
      with_definitions d behind = defining (definitions (text_in (paragraph_of behind))) around (take d behind) ++ sections_in on bound true around (drop d behind)

      some : (d : ℕ) → nat_le 1 d ≡ true → FirstKept (with_definitions d all)
      some zero e = let one = leb-true 1 0 e in absurd (omega (arith, one))
      some (suc d) e = λ k. absurd (cc)

      by : (b : Bool) → nat_le 1 (defined_in on all) ≡ b → let n = cond b 0 (suc m) in FirstKept (undefined false around (take n all) ++ with_definitions (defined_in on (drop n all)) (drop n all))
      by true e = some (defined_in on all) e
      by false e = λ k. part-kept row (take m rows) left

  -- cut at tables
  cuts-kept : (bound : ℕ) (around : Part) (row : Row) (rows : List Row) → row.is_left_blank ≡ false → FirstKept (flat_map (sections_of_cut on around) (cuts (suc bound) (row ∷ rows)))
  cuts-kept bound around row rows left = by (begins_in_table is_in_table rows)
    where
      by : (b : Bool) → FirstKept (flat_map (sections_of_cut on around) (pieces bound (cond b 0 (suc (before_table is_in_table rows))) (row ∷ rows)))
      by true = λ k. absurd (cc)
      by false =
          let n = before_table is_in_table rows in
          let z = drop n rows in
          let front = take n rows in
          kept-append (sections_in on (suc (length front)) false around (row ∷ front))
          (flat_map (sections_of_cut on around) (tabled (take (table_lines is_in_table z) z) ∷ cuts bound (drop (table_lines is_in_table z) z))) (first-kept (length front) around row front left)

  sections-kept : (row : Row) (rows : List Row) → row.is_left_blank ≡ false → FirstKept (sections on (row ∷ rows))
  sections-kept row rows left = kept-append (cut on p) (flat_map (cut on) (parts_in (length rows) (drop n rows))) (by row.is_blank)
    where
      n : ℕ
      n = cond row.is_blank 0 (further rows)

      p : Part
      p = record { first = row; more = take n rows; frames = frames_at row rows; stands = standing row rows }

      by : (b : Bool) → FirstKept (cond b (record { part = p; inside = lines false } ∷ []) (flat_map (sections_of_cut on p) (cuts (suc (length p.more)) (row ∷ p.more))))
      by true = λ k. part-kept row rows left
      by false = cuts-kept (length p.more) p row p.more left

last-map : (f : Row → Row) (q : Row) (more : List Row) → last_of (f q) (map f more) ≡ f (last_of q more)
last-map f q [] = refl
last-map f q (r ∷ more) = last-map f r more

moved-kept : (m bytes : ℕ) (ss : List Section) → FirstKept ss → FirstKept (map (moved_section m bytes) ss)
moved-kept m bytes [] h = h
moved-kept m bytes (s ∷ ss) h = λ k. ap (λ (r : Row). r.is_left_blank) (last-map (moved_row m bytes) s.part.first s.part.more) ∙ h k

-- ---- fences have three bytes at least
abbrev IsLong : Leaf → Type 0
IsLong (open_fence f) = 3 ≤ f.size
IsLong _ = Unit {0}

module _ (on : Constructs) where
  cond-long : (b : Bool) (x y : Leaf) → IsLong x → IsLong y → IsLong (cond b x y)
  cond-long true x y h k = h
  cond-long false x y h k = k

  opened-long : (kind : LineKind) (t : List ℕ) → ((f : Fence) → kind ≡ fence f → 3 ≤ f.size) → IsLong (opened_by on kind t)
  opened-long (fence f) t h = h f refl
  opened-long (html kind) t h = cond-long (ends kind t) closed (open_html kind) tt tt
  opened-long kind t h = tt

  after-long : (leaf : Leaf) (t : List ℕ) → IsLong leaf → IsLong (leaf_after on leaf t)
  after-long closed t h = opened-long (line_kind on t) t (fence-long on t)
  after-long open_table t h = opened-long (line_kind on t) t (fence-long on t)
  after-long open_paragraph t h =
      let opened = opened_by on (line_kind on t) t in
      cond-long (is_some (underline_rank on t)) closed (cond (interrupts (line_kind on t)) opened open_paragraph) tt (cond-long (interrupts (line_kind on t)) opened open_paragraph (opened-long (line_kind on t) t (fence-long on t)) tt)
  after-long (open_fence f) t h = cond-long (closes on f t) closed (open_fence f) tt h
  after-long (open_html kind) t h = cond-long (cond (waits_for_blank kind) (is_blank_line t) (ends kind t)) closed (open_html kind) tt tt

  -- ---- a leaf block that holds its line ending goes on over a line without text
  held-goes : (leaf : Leaf) → IsLong leaf → holds_ending leaf ≡ true → holds_ending (leaf_after on leaf []) ≡ true
  held-goes closed long h = absurd (cc)
  held-goes open_paragraph long h = absurd (cc)
  held-goes open_table long h = absurd (cc)
  held-goes (open_fence f) long h = by (closes on f []) refl
    where
      by : (b : Bool) → closes on f [] ≡ b → holds_ending (cond b closed (open_fence f)) ≡ true
      by true e = absurd (closing-text on f [] long e refl)
      by false e = refl
  held-goes (open_html kind) long h = by (waits_for_blank kind) h (ends kind []) refl
    where
      by : (w : Bool) → not w ≡ true → (e : Bool) → ends kind [] ≡ e → holds_ending (cond (cond w true e) closed (open_html kind)) ≡ true
      by true k e f = absurd (cc)
      by false k true f = absurd (ends-none on kind f)
      by false k false f = h

  held-no-text : (leaf : Leaf) → holds_ending leaf ≡ true → is_paragraph leaf ≡ false
  held-no-text open_paragraph h = absurd (cc)
  held-no-text leaf h = refl

  held-no-table : (leaf : Leaf) → holds_ending leaf ≡ true → is_table leaf ≡ false
  held-no-table open_table h = absurd (cc)
  held-no-table leaf h = refl

  module _ (k : Known) (n : ℕ) (line : Line) where
    abbrev row : Row
    row = row_of on k n line

    abbrev plain : Row
    plain = without.row_of on k.before n line

    row-long : IsLong k.before.leaf → IsLong row.leaf
    row-long h = by (is_row_of_table on k (row_without on k n line)) (underlines_nothing on k plain) plain.is_left_blank plain.is_lazy plain.stays
      where
        by : (w u left lazy stays : Bool) → IsLong (cond w open_table (cond u open_paragraph (cond left closed (cond lazy open_paragraph (leaf_after on (cond stays k.before.leaf closed) (rest_of plain))))))
        by true u left lazy stays = tt
        by false true left lazy stays = tt
        by false false true lazy stays = tt
        by false false false true stays = tt
        by false false false false true = after-long k.before.leaf (rest_of plain) h
        by false false false false false = after-long closed (rest_of plain) tt

    next-long : IsLong k.before.leaf → IsLong (known_after on k row).before.leaf
    next-long h = by row.is_left_blank row.is_lazy
      where
        by : (left lazy : Bool) → let all = containers_of row.went_on ++ containers_of row.begun in
            IsLong (let b : Before = cond left (record k.before { depth = length row.went_on; leaf = closed }) (cond lazy (record k.before { leaf = row.leaf }) (record { stack = all; depth = length all; leaf = row.leaf })) in b).leaf
        by true lazy = tt
        by false true = row-long h
        by false false = row-long h

    empty-rest : text_of line ≡ [] → rest_of row ≡ []
    empty-rest e = ap (drop row.columns) e ∙ drop-nil row.columns

    -- where no container is open, a line that is not left blank has text, if no leaf block holds its ending
    row-text : IsDeep on k → k.before.stack ≡ [] → IsLong k.before.leaf → row.begun ≡ [] → row.is_left_blank ≡ false → holds_ending row.leaf ≡ false → HasText line
    row-text deep none long begun left held e = by (holds_ending k.before.leaf) refl
      where
        stays : row.stays ≡ true
        stays = stays-at-top on k n line deep none begun

        empty : rest_of row ≡ []
        empty = empty-rest e

        lazy : row.is_lazy ≡ false
        lazy = top-not-lazy on k n line deep none

        by : (b : Bool) → holds_ending k.before.leaf ≡ b → ⊥
        by false f = let both : true ≡ false = sym (λ i. is_blank_line (empty i) && (has_none (begun i) && not (stays i && f i))) ∙ left in absurd (cc)
        by true f =
            let none : underlines_nothing on k plain ≡ false =
            (λ i. on.definition && ((plain.stays && held-no-text k.before.leaf f i) && (is_some (underline_rank on (rest_of plain)) && is_used_up k.text)))
            ∙ ap (λ b. on.definition && (b && (is_some (underline_rank on (rest_of plain)) && is_used_up k.text))) (and-false plain.stays) ∙ and-false on.definition in
            let own = row_without on k n line in
            let untabled : is_row_of_table on k own ≡ false =
            (λ i. on.gfm_table && (own.stays && (is_paragraph own.leaf && ((held-no-text k.before.leaf f i && begins_table on k own) || (held-no-table k.before.leaf f i && is_row (rest_of own))))))
            ∙ fourth-fails on.gfm_table own.stays (is_paragraph own.leaf) in
            let leaf : row.leaf ≡ leaf_after on k.before.leaf [] =
            ap (λ w. cond w open_table own.leaf) untabled
            ∙ (λ i. cond (none i) open_paragraph (cond (left i) closed (cond (lazy i) open_paragraph (leaf_after on (cond (stays i) k.before.leaf closed) (empty i))))) in
            let both : true ≡ false = sym (held-goes k.before.leaf long f) ∙ sym (ap holds_ending leaf) ∙ held in
            absurd (cc)

-- a line of the stretch, moved
abbrev Ends : Row → Type 0
Ends r = r.is_left_blank ≡ false → holds_ending r.leaf ≡ false → HasText r.line

moved-text : (m bytes : ℕ) (line : Line) → HasText line → HasText (moved_line m bytes line)
moved-text m bytes line h e = h (sym (text-moved m bytes line) ∙ e)

-- ---- at a seam
module _ (on : Constructs) (m bytes : ℕ) (one : List Line) (line : Line) (behind : List Line) (there : is_at_document_rest on one line ≡ true) (goes : goes_on_behind on one (line ∷ behind) ≡ true) where
  abbrev start : Known
  start = known_at_start on

  abbrev first_row : Row
  first_row = row_of on start 1 line

  abbrev next : Known
  next = known_after on start first_row

  abbrev r : Row
  r = moved_row m bytes first_row

  abbrev rs : List Row
  rs = map (moved_row m bytes) (rows_from on next 2 behind)

  at-end : ((known_behind on start 1 one).before.stack ≡ []) × (has_none first_row.begun ≡ true)
  at-end = stretches-go-on-at-top on one line there goes

  -- no container is open behind the line at the rest
  pub seam-deep : IsDeep on next
  seam-deep = deep-next on start 1 line (omega arith)

  pub seam-none : next.before.stack ≡ []
  seam-none = next-none on start 1 line refl (none_is first_row.begun at-end.1)

  pub seam-not-lazy : (Place : Bool → List Row → Type 0) (whole first second : List Section) (h : SectionSeam Place (at_top r) (rows on one) r rs whole first second) → AllByRecursion NotLazy (h.it.begin.first ∷ ((h.it.begin.more ++ firsts h.it.blanks) ++ (h.it.end.first ∷ h.it.end.more)))
  seam-not-lazy Place whole first second h =
      let inner = h.it.begin.more ++ firsts h.it.blanks in
      let above = behind-not-lazy on start 1 one (omega arith) at-end.0 h.above h.it.begin.first inner h.rows_are h.it.full h.it.stay in
      let end = subst NotLazy (sym h.it.end_is) (top-not-lazy on start 1 line (omega arith) refl) in
      let more = ahead-all on m bytes NotLazy (λ k. Unit {0}) (λ k n line q. q) (λ k n line deep none q begun. top-not-lazy on k n line deep none) next 2 behind h.it.end.more h.end_rows.left seam-deep seam-none tt h.end_rows.is h.it.end_stay in
      (above.0, every-append NotLazy inner (h.it.end.first ∷ h.it.end.more) above.1 (end, more))

  -- the last line of the second stretch
  pub seam-text : (Place : Bool → List Row → Type 0) (whole first second : List Section) → second ≡ map (moved_section m bytes) (sections on (rows on (line ∷ behind))) → (h : SectionSeam Place (at_top r) (rows on one) r rs whole first second)
      → is_held h.it.end ≡ false → HasText (last_line (lines_of (h.it.end.first ∷ h.it.end.more)))
  seam-text Place whole first second second_is h held =
      let at = goes-on on bytes one line behind there goes in
      let end = h.it.end in
      let kept = subst FirstKept (sym second_is ∙ h.second_is) (moved-kept m bytes (sections on (rows on (line ∷ behind))) (sections-kept on first_row (rows_from on next 2 behind) at.left)) refl in
      let full : end.first.is_blank ≡ false = ap (λ (q : Row). q.is_blank) h.it.end_is ∙ at.full in
      let holds : holds_ending (last_of end.first end.more).leaf ≡ false = sym (ap (λ b. not b && holds_ending (last_of end.first end.more).leaf) full) ∙ held in
      let first_ends : Ends r = (λ left holds. moved-text m bytes line (λ e. let both : true ≡ false = sym (ap is_blank_line (empty-rest on start 1 line e)) ∙ at.full in absurd (cc))) in
      let more = ahead-all on m bytes Ends (λ k. IsLong k.before.leaf) (λ k n line long. next-long on k n line long)
      (λ k n line deep none long begun left holds. moved-text m bytes line (row-text on k n line deep none long begun left holds))
      next 2 behind end.more h.end_rows.left seam-deep seam-none (next-long on start 1 line tt) h.end_rows.is h.it.end_stay in
      subst HasText (sym (last-line-is end.first end.more)) (of-last Ends end.first end.more (subst Ends (sym h.it.end_is) first_ends) more kept holds)
