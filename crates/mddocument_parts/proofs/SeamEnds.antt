-- The last stretch of a document, if a line at a rest goes on with it: its lines, and the leaf block that is open behind them.
use Rattle.std.proofs.Common.{Bool, List, None, Some, [], ap, arith, cond, drop, false, length, not, refl, subst, suc, sym, true, ℕ, ◌&&◌, ◌++◌, ◌+◌, ◌||◌, ◌∙◌, ◌∷◌, ◌≡◌, ◌≤◌}
use Rattle.std.proofs.Math.Bool.{and-false}
use Rattle.std.proofs.lemmas.Bool.{false_from_ne_true, false≢true}
use Rattle.std.specs.List.{AllByRecursion}
use Rattle.std.specs.Prelude.{is_some}
use Rattle.markdown_base.proofs.Common.{and-right}
use Rattle.markdown_base.proofs.Facts.Bools.{and-left}
use Rattle.markdown_base.specs.Virtual.{virtual}
use Rattle.markdown_base.specs.declared.configuration.Constructs.{Constructs}
use Rattle.mdconstructs_machines.specs.LineEvents.{lines_in}
use Rattle.mdblock_leaf_blocks.specs.HtmlLines.{html_kind}
use Rattle.mdblock_leaf_blocks.specs.LeafBlocks.{Line, interrupts, text_of}
use Rattle.mdblock_leaf_blocks.specs.LineKinds.{LineKind, fence, heading, html, indented, is_blank_line, line_kind, run, text as text_kind, thematic_break, underline_rank}
use Rattle.mdblock_containers.specs.Letters.{letter}
use Rattle.mdblock_containers.specs.Prefixes.{columns_of}
use Rattle.mdblock_containers.specs.Rows as without
use Rattle.mdblock_containers.specs.Rows.{Before, Leaf, Row, closed, has_none, holds_ending, is_paragraph, leaf_after, open_paragraph, opened_by, rest_of}
use Rattle.mdblock_containers.specs.Skeleton.{further}
use Rattle.mdblock_definitions.proofs.KnownLemmas.{paragraph-is}
use Rattle.mdblock_definitions.proofs.PlainLetters.{open-not-blank}
use Rattle.mdblock_definitions.specs.Rows.{Known, known_after, row_of, row_without, rows_from, underlines_nothing}
use Rattle.mdblock_definitions.specs.Sections.{Section, before_defined, begins_text, is_in_table}
use Rattle.mddocument_parts.proofs.DocumentRests.{stretches-go-on-at-top}
use Rattle.mddocument_parts.proofs.JoinedDocument.{all-bare, bare-from, first-of, IsDeep, deep-next, leaf-next-is}
use Rattle.mddocument_parts.proofs.JoinedMarks.{lines_of}
use Rattle.mddocument_parts.proofs.JoinedSections.{lefts}
use Rattle.mddocument_parts.proofs.MovedBlocks.{text-moved}
use Rattle.mddocument_parts.proofs.DocumentLabels.{own-row}
use Rattle.mddocument_parts.proofs.NoUnderlines.{goes-on, EndsBefore, NoTable}
use Rattle.mddocument_parts.proofs.JoinedChunks.{DocumentPlace, Good, PlaceAt, anew, directly, known_at_end}
use Rattle.mddocument_parts.proofs.SectionRows.{AllLeft}
use Rattle.mddocument_parts.proofs.StretchStarts.{stretch-ends, stretch-ends-before, StartsClosed, State, rows_at, whole-next, Used}
use Rattle.mddocument_parts.proofs.WithoutContainers.Leaves.{leaf_next}
use Rattle.mddocument_parts.proofs.WithoutContainers.PlainParts.{IsBare, plain_before}
use Rattle.mddocument_parts.specs.DocumentRests.{begins_at_document_rest, document_rows, first_at_document_rest, goes_on_behind, is_at_document_rest, is_closed, known_at_start, known_behind, moved_row}
use Rattle.mddocument_parts.specs.JoinedStretches.{AllStay, SectionSeam, at_top, firsts}
use Rattle.mddocument_parts.specs.Moved.{begins_line, line_endings}
use Rattle.mddocument_parts.specs.Rests.{begins_near, kind_of_line}

-- ==== A line that begins with the letter that stands for other bytes is text: it opens a paragraph.
module _ (on : Constructs) where
  pub letter-kind : (t : List ℕ) → line_kind on (letter ∷ t) ≡ text_kind
  letter-kind t =
      by on.code_indented on.heading_atx on.code_fenced on.html_flow on.thematic_break
    where
      by : (far atx fenced flow broken : Bool)
          → cond (far && false) indented (cond (atx && false) heading (cond (fenced && false) (fence (record { byte = 96; size = run 96 (letter ∷ t); indent = 0 })) (cond (fenced && false) (fence (record { byte = 126; size = run 126 (letter ∷ t); indent = 0 })) (elim (cond flow (html_kind (letter ∷ t)) None) as (λ _. LineKind) [
            | Some kind ↦ html kind
            | None ↦ cond (broken && false) thematic_break text_kind
          ])))) ≡ text_kind
      by far atx fenced true broken = (λ i. cond (and-false far i) indented (cond (and-false atx i) heading (cond (and-false fenced i) (fence (record { byte = 96; size = run 96 (letter ∷ t); indent = 0 })) (cond (and-false fenced i) (fence (record { byte = 126; size = run 126 (letter ∷ t); indent = 0 })) (cond (and-false broken i) thematic_break text_kind)))))
      by far atx fenced false broken = (λ i. cond (and-false far i) indented (cond (and-false atx i) heading (cond (and-false fenced i) (fence (record { byte = 96; size = run 96 (letter ∷ t); indent = 0 })) (cond (and-false fenced i) (fence (record { byte = 126; size = run 126 (letter ∷ t); indent = 0 })) (cond (and-false broken i) thematic_break text_kind)))))

  -- and so does its line
  pub letter-leaf : (line : Line) (t : List ℕ) → text_of line ≡ letter ∷ t → leaf_next on closed line ≡ open_paragraph
  letter-leaf line t e = ap (λ t. cond (is_blank_line t && true) closed (leaf_after on closed t)) e ∙ ap (λ kind. opened_by on kind (letter ∷ t)) (letter-kind t)

-- ==== The last stretch of a document, if a line at a rest goes on with it: its lines, of which the first is read with the letter in front if it is text directly behind definitions, end where no leaf block may go on.
none-deep : {A : Type 0} (xs : List A) (n : ℕ) → n ≤ length xs → xs ≡ [] → n ≡ 0
none-deep xs n h e = let size = ap (λ l. length l) e in omega (arith, h, size)

-- a text begins with the letter
abbrev pub BeginsLetter : Line → Type 0
BeginsLetter x = (t : List ℕ) × (text_of x ≡ letter ∷ t)

module _ (on : Constructs) where
  module _ (k : Known) (n : ℕ) (line : Line) (ls : List Line) where
    abbrev row : Row
    row = row_of on k n line

    abbrev next : Known
    next = known_after on k row

    abbrev behind : List Row
    behind = rows_from on next (suc n) ls

    abbrev plain : Row
    plain = without.row_of on k.before n line

    kept : row.is_blank ≡ false → row.is_left_blank ≡ false
    kept full = ap (λ b. b && (has_none row.begun && not (row.stays && holds_ending k.before.leaf))) full

    -- a line without containers, as what is known behind it
    known-bare : row.is_blank ≡ false → IsDeep on k → AllStay behind → (known_behind on k n (line ∷ ls)).before.stack ≡ [] → next.before ≡ plain_before on row.leaf
    known-bare full deep stay none =
        let stack = (all-bare on next (suc n) ls stay none).0 in
        let depth : next.before.depth ≡ 0 = none-deep next.before.stack next.before.depth (deep-next on k n line deep) stack in
        let leaf = leaf-next-is on k n line (kept full) in
        (λ i. let b : Before = record { stack = stack i; depth = depth i; leaf = leaf i } in b)

    -- directly behind definitions, a line that is no text opens what it opens alone
    module _ (used : Used on k (row ∷ behind)) (stays : row.stays ≡ true) (full : row.is_blank ≡ false) (none : is_paragraph row.leaf ≡ false) (untabled : is_in_table row ≡ false) where
      -- it is as without tables
      own : row ≡ row_without on k n line
      own = own-row on (open-not-blank on) k n line untabled

      abbrev rest : List ℕ
      rest = rest_of plain

      abbrev under : Bool
      under = is_some (underline_rank on rest)

      no-nothing : underlines_nothing on k plain ≡ false
      no-nothing = false_from_ne_true (underlines_nothing on k plain) (λ e. false≢true (sym none ∙ ap (λ (r : Row). is_paragraph r.leaf) own ∙ ap (λ b. is_paragraph (cond b open_paragraph plain.leaf)) e))

      no-underline : under ≡ false
      no-underline = by under refl
        where
          by : (b : Bool) → under ≡ b → b ≡ false
          by true e =
              let all : underlines_nothing on k plain ≡ true = (λ i. used.defines i && ((stays i && used.is_open i) && (e i && used.used i))) in
              let both : true ≡ false = sym all ∙ no-nothing in
              absurd (cc)
          by false e = refl

      abbrev leaf_by : (lazy : Bool) → Leaf
      leaf_by lazy = cond lazy open_paragraph (leaf_after on (cond plain.stays k.before.leaf closed) rest)

      leaf-lazy : row.leaf ≡ leaf_by plain.is_lazy
      leaf-lazy = ap (λ (r : Row). r.leaf) own ∙ ap (λ u. cond u open_paragraph plain.leaf) no-nothing ∙ ap (λ b. cond b closed (leaf_by plain.is_lazy)) (kept full)

      not-lazy : plain.is_lazy ≡ false
      not-lazy = false_from_ne_true plain.is_lazy (λ e. false≢true (sym none ∙ ap is_paragraph leaf-lazy ∙ ap (λ b. is_paragraph (leaf_by b)) e))

      abbrev broken : Bool
      broken = interrupts (line_kind on rest)

      leaf-broken : row.leaf ≡ cond broken (opened_by on (line_kind on rest) rest) open_paragraph
      leaf-broken =
          leaf-lazy
          ∙ ap leaf_by not-lazy
          ∙ (λ i. leaf_after on (cond (stays i) (paragraph-is k.before.leaf used.is_open i) closed) rest)
          ∙ ap (λ b. cond b closed (cond broken (opened_by on (line_kind on rest) rest) open_paragraph)) no-underline

      opens-alone : row.leaf ≡ leaf_after on closed rest
      opens-alone = by broken refl
        where
          by : (b : Bool) → broken ≡ b → row.leaf ≡ opened_by on (line_kind on rest) rest
          by true e = leaf-broken ∙ ap (λ b. cond b (opened_by on (line_kind on rest) rest) open_paragraph) e
          by false e =
              let text : is_paragraph row.leaf ≡ true = ap is_paragraph (leaf-broken ∙ ap (λ b. cond b (opened_by on (line_kind on rest) rest) open_paragraph) e) in
              let both : true ≡ false = sym text ∙ none in
              absurd (cc)

  -- ---- the last stretch
  module _ (end : Known) (stack : end.before.stack ≡ []) (shut : is_closed end.before.leaf ≡ true) (q : Row) (more bs : List Row) (full : q.is_blank ≡ false) (bare : AllByRecursion IsBare (q ∷ (more ++ bs))) (stay : AllStay (more ++ bs)) (lefts : AllLeft bs)
      (reach : further (more ++ bs) ≡ length more) (whole : before_defined on false (q ∷ (more ++ bs)) ≡ length (q ∷ (more ++ bs))) (is_behind : Bool) (x : Line) (same : is_behind ≡ false → x ≡ q.line) (lettered : is_behind ≡ true → BeginsLetter x) (l : Line)
      (near : begins_near (kind_of_line on l) ≡ true) where
    abbrev Goal : Type 0
    Goal = EndsBefore on (x ∷ lines_of more) (lines_of bs) l

    ends-anew : (k : Known) (n : ℕ) (ls : List Line) → q ∷ (more ++ bs) ≡ rows_from on k n ls → known_behind on k n ls ≡ end → IsDeep on k → NoTable on (q ∷ (more ++ bs)) → is_behind ≡ false → StartsClosed on k n ls → Goal
    ends-anew k n [] are known deep untabled plain starts = absurd (cc)
    ends-anew k n (line ∷ ls) are known deep untabled plain starts =
        let r = row_of on k n line in
        let rs = rows_from on (known_after on k r) (suc n) ls in
        let both = first-of on q r (more ++ bs) rs are in
        let first : r.line ≡ x = sym (ap (λ (r : Row). r.line) both.0) ∙ sym (same plain) in
        subst (λ y. EndsBefore on (y ∷ lines_of more) (lines_of bs) l) first
        (stretch-ends-before on k n line ls starts (sym (ap (λ (r : Row). r.is_blank) both.0) ∙ full) (subst (NoTable on) both.1 untabled.1) (subst (λ rows. before_defined on false rows ≡ length rows) are whole) (subst (AllByRecursion IsBare) are bare) (subst AllStay both.1 stay) deep more bs (sym both.1) lefts
        (sym (ap further both.1) ∙ reach) (ap (λ (k : Known). k.before.stack) known ∙ stack) (ap (λ (k : Known). is_closed k.before.leaf) known ∙ shut) l near)

    ends-directly : (k : Known) (n : ℕ) (ls : List Line) → q ∷ (more ++ bs) ≡ rows_from on k n ls → known_behind on k n ls ≡ end → IsDeep on k → NoTable on (q ∷ (more ++ bs)) → is_behind ≡ begins_text (rows_from on k n ls) → Used on k (rows_from on k n ls) → AllStay (rows_from on k n ls) → Goal
    ends-directly k n [] are known deep untabled flag used all-stay = absurd (cc)
    ends-directly k n (line ∷ ls) are known deep untabled flag used all-stay =
        let both = first-of on q r (more ++ bs) rs are in
        let r_full : r.is_blank ≡ false = sym (ap (λ (r : Row). r.is_blank) both.0) ∙ full in
        let bares = subst (AllByRecursion IsBare) are bare in
        let columns : r.columns ≡ 0 = (λ i. columns_of (bares.0.0 i) + columns_of (bares.0.1 i)) in
        let text : rest_of r ≡ text_of line = ap (λ c. drop c (text_of line)) columns in
        let here : is_blank_line (text_of line) ≡ false = ap is_blank_line (sym text) ∙ r_full in
        let stays : r.stays ≡ true = sym (ap (λ b. b || r.stays) (kept k n line ls r_full)) ∙ all-stay.0 in
        let none = ap (λ (k : Known). k.before.stack) known ∙ stack in
        let parts = whole-next on false r rs (subst (λ rows. before_defined on false rows ≡ length rows) are whole) in
        let one : is_blank_line (text_of x) ≡ false = first-full is_behind refl (λ e. ap (λ (r : Row). r.line) both.0) here in
        let plain = subst (NoTable on) are untabled in
        stretch-ends on k n line ls plain.1 x (known-bare k n line ls r_full deep all-stay.1 none) one (first-leaf is_behind refl (ap (λ (r : Row). r.line) both.0) r_full text here stays)
        (λ defines e. goes-on on defines k n line rs e (λ i. stays i && used.is_open i) used.few used.text) parts.1 bares.1 all-stay.1 deep more bs (sym both.1) lefts
        (sym (ap further both.1) ∙ reach) none (ap (λ (k : Known). is_closed k.before.leaf) known ∙ shut) l near
      where
        r : Row
        r = row_of on k n line

        rs : List Row
        rs = rows_from on (known_after on k r) (suc n) ls

        first-full : (b : Bool) → is_behind ≡ b → (b ≡ false → q.line ≡ line) → is_blank_line (text_of line) ≡ false → is_blank_line (text_of x) ≡ false
        first-full true e first here = ap is_blank_line (lettered e).1
        first-full false e first here = ap (λ (l : Line). is_blank_line (text_of l)) (same e ∙ first refl) ∙ here

        first-leaf : (b : Bool) → is_behind ≡ b → q.line ≡ line → r.is_blank ≡ false → rest_of r ≡ text_of line → is_blank_line (text_of line) ≡ false → r.stays ≡ true → leaf_next on closed x ≡ r.leaf
        first-leaf true e first r_full text here stays = letter-leaf on x (lettered e).0 (lettered e).1 ∙ sym (paragraph-is r.leaf (sym flag ∙ e))
        first-leaf false e first r_full text here stays =
            ap (leaf_next on closed) (same e ∙ first)
            ∙ ap (λ b. cond (b && true) closed (leaf_after on closed (text_of line))) here
            ∙ ap (leaf_after on closed) (sym text)
            ∙ sym (opens-alone k n line ls used stays r_full (sym flag ∙ e) (subst (NoTable on) are untabled).0)

    ends-at : PlaceAt on end is_behind (q ∷ (more ++ bs)) → Goal
    ends-at h = let a = h.0 in by h.2 a.state a.are a.known a.deep a.is
      where
        by : NoTable on (q ∷ (more ++ bs)) → (s : State on) → q ∷ (more ++ bs) ≡ rows_at on s → known_behind on s.known s.number s.lines ≡ end → IsDeep on s.known → Good on end is_behind s → Goal
        by untabled s are known deep (anew plain starts) = ends-anew s.known s.number s.lines are known deep untabled plain starts
        by untabled s are known deep (directly flag used all) = ends-directly s.known s.number s.lines are known deep untabled flag used all

-- ---- at a seam of a document
module _ (on : Constructs) (t : ℕ) (a b : List ℕ) (rest : begins_at_document_rest on t a b ≡ true) (goes : goes_on_behind on (lines_in (virtual t a)) (lines_in (virtual t b)) ≡ true) (line : Line) (behind : List Line) (are : lines_in (virtual t b) ≡ line ∷ behind)
    (rs : List Row) (whole first second : List Section)
    (h : let r = moved_row (line_endings a) (length a) (row_of on (known_at_start on) 1 line) in SectionSeam (DocumentPlace on t a) (at_top r) (document_rows on t a) r rs whole first second) where
  abbrev one : List Line
  one = lines_in (virtual t a)

  there : is_at_document_rest on one line ≡ true
  there = sym (ap (first_at_document_rest on one) are) ∙ and-right (begins_line b a) (first_at_document_rest on one (lines_in (virtual t b))) rest

  -- the line at the rest is neither blank nor far
  pub near-at-seam : begins_near (kind_of_line on h.it.end.first.line) ≡ true
  near-at-seam =
      ap (λ (r : Row). begins_near (kind_of_line on r.line)) h.it.end_is
      ∙ ap (λ t. begins_near (line_kind on t)) (text-moved (line_endings a) (length a) line)
      ∙ and-left (begins_near (kind_of_line on line)) _ (and-right (is_closed (known_at_end on one).before.leaf) _ there)

  -- The last stretch of the first part ends there
  pub stretch-at-seam : (x : Line) → (h.within.is_behind ≡ false → x ≡ h.it.begin.first.line) → (h.within.is_behind ≡ true → BeginsLetter x) → (l : Line) → begins_near (kind_of_line on l) ≡ true → EndsBefore on (x ∷ lines_of h.it.begin.more) (lines_of (firsts h.it.blanks)) l
  stretch-at-seam x same lettered l near =
      let on_behind : goes_on_behind on one (line ∷ behind) ≡ true = sym (ap (goes_on_behind on one) are) ∙ goes in
      let end = stretches-go-on-at-top on one line there on_behind in
      let shut = and-left (is_closed (known_at_end on one).before.leaf) _ there in
      let bare = bare-from on (known_at_start on) 1 one end.0 h.above h.it.begin.first (h.it.begin.more ++ firsts h.it.blanks) h.rows_are h.it.full h.it.stay in
      ends-at on (known_at_end on one) end.0 shut h.it.begin.first h.it.begin.more (firsts h.it.blanks) h.it.full bare h.it.stay (lefts h.it.blanks h.it.are_blank) h.it.reach h.within.place.1 h.within.is_behind x same lettered l near h.within.place
