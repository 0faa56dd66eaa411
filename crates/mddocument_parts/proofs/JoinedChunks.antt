-- Marks of a document at a rest where a stretch of lines goes on: those of its parts, but for the chunk at the seam.
use Rattle.std.proofs.Common.{Bool, List, [], ap, append_assoc, arith, cond, drop, false, length, length-drop, not, refl, subst, suc, sym, take, true, zero, ℕ, ◌&&◌, ◌++◌, ◌+◌, ◌<◌, ◌==◌, ◌||◌, ◌∙◌, ◌∷◌, ◌≡◌, ◌≤◌}
use Rattle.std.proofs.Math.Bool.{and-false}
use Rattle.std.proofs.lemmas.List.{length-map, map-append, take-append-le}
use Rattle.std.proofs.lemmas.List.Sums.{prefix_len-le-length}
use Rattle.std.specs.List.{AllByRecursion, flat_map}
use Rattle.std.specs.Prelude.{map}
use Rattle.markdown_base.proofs.Common.{and-right, every-drop, every-map}
use Rattle.markdown_base.proofs.Facts.Bools.{and-left}
use Rattle.markdown_base.specs.Virtual.{Seat, virtual}
use Rattle.markdown_base.specs.declared.configuration.Constructs.{Constructs}
use Rattle.markdown_base.specs.declared.event.Name.TheVariants as name
use Rattle.markdown_tokenizer.proofs.Positions.Order.{every-back, every-front}
use Rattle.mdconstructs_tables.specs.Breaks.{is_white}
use Rattle.mdconstructs_machines.specs.LineEvents.{all_of, ending_of, line_text, lines_in}
use Rattle.mdblock_leaf_blocks.proofs.Lines.WholeLines.{IsWhole, whole-lines}
use Rattle.mdblock_leaf_blocks.proofs.Marks.LeafSpans.{text-shorter}
use Rattle.mdblock_leaf_blocks.specs.BlocksRead.{block_seats}
use Rattle.mdblock_leaf_blocks.specs.LeafBlocks.{Line, blank_line, text_of}
use Rattle.mdblock_leaf_blocks.specs.LeafEvents.{body, last_end, leaf_blocks_marks, leaf_marks, white}
use Rattle.mdblock_leaf_blocks.specs.LineKinds.{indent}
use Rattle.mdblock_containers.proofs.FrameFacts.{none_is}
use Rattle.mdblock_containers.proofs.SeatFacts.{take_text}
use Rattle.mdblock_containers.specs.Prefixes.{columns_of, containers_of}
use Rattle.mdblock_containers.specs.Rows.{Before, Row, closed, has_none, holds_ending, is_paragraph, rest_of}
use Rattle.mdblock_containers.specs.Skeleton.{Part, ending_marks, frames_at, further, is_held, last_of, standing}
use Rattle.mdblock_definitions.proofs.KnownLemmas.{paragraph-is}
use Rattle.mdblock_definitions.specs.Rows.{Known, known_after, row_of, rows, rows_from}
use Rattle.mdblock_definitions.specs.Sections.{Section, before_defined, begins_text, defined_in, is_in_table, sections}
use Rattle.mdblock_table_marks.specs.TableCuts.{before_table, begins_in_table, table_lines}
use Rattle.mddocument_parts.proofs.CutsJoined.{behind_table}
use Rattle.mddocument_parts.proofs.NoUnderlines.{NoTable}
use Rattle.mdblock_definitions.specs.Skeleton.{all_rows, sections_marks}
use Rattle.mddocument_parts.proofs.DocumentBytes.{counted}
use Rattle.mddocument_parts.proofs.DocumentRests.{stretches-go-on-at-top}
use Rattle.mddocument_parts.proofs.JoinedDocument.{bare-from, goes-on, sections-placed, IsDeep, IsRead, ahead-bare, all-read, columns-read, last-holds-from, BareBehind, Begun}
use Rattle.mddocument_parts.proofs.JoinedMarks.{IsPlainPart, IsPlainRow, after_marks, blank_marks, first-marks, lines_of, part_white, same-held, second-marks, white_columns, whole-marks}
use Rattle.mddocument_parts.proofs.JoinedSections.{lefts, real-parts, Placed, Placing, its_frames, its_parts, its_stands}
use Rattle.mddocument_parts.proofs.MarksOfBoth.{apart, rows-are, sections-are}
use Rattle.mddocument_parts.proofs.StretchStarts.{Begins, NextStarts, StartsAt, StartsClosed, State, all-next, behind-on, closed-starts, deep-on, first-untabled, further-none, left-leaf, none-starts, part-begins, rows-on, rows_at, state_on, table-deep, table-known, table-rows, table-starts, table_state, Found, Used, found-closed, found-used, used-behind}
use Rattle.mddocument_parts.proofs.WithoutContainers.PlainParts.{IsBare}
use Rattle.mddocument_parts.specs.DocumentRests.{begins_at_document_rest, document_rows, first_at_document_rest, goes_on_behind, is_at_document_rest, is_closed, known_at_start, known_behind, moved_prefix, moved_row}
use Rattle.mddocument_parts.specs.JoinedStretches.{AllStay, ChunkSeam, IsBlankPart, IsSame, SectionSeam, SectionsJoin, at_top, firsts, joined_part, marks_between, may_stay, stretch_chunk}
use Rattle.mddocument_parts.specs.Moved.{begins_line, line_endings}
use Rattle.mddocument_parts.specs.MovedSections.{moved_section}

-- ==== What is known of the lines before the last stretch of a document, if a line at a rest goes on with it: no leaf block is open there, or definitions come directly before it.
-- the same front leaves the same
same-back : (xs ys us vs : List Row) → xs ++ ys ≡ us ++ vs → length xs ≡ length us → ys ≡ vs
same-back [] ys [] vs e size = e
same-back [] ys (u ∷ us) vs e size = absurd (omega (arith, size))
same-back (x ∷ xs) ys [] vs e size = absurd (omega (arith, size))
same-back (x ∷ xs) ys (u ∷ us) vs e size = same-back xs ys us vs (ap (drop 1) e) (omega (arith, size))

tail-stay : (n : ℕ) (q : Row) (x : List Row) → AllStay x → AllStay (drop 1 (drop n (q ∷ x)))
tail-stay zero q x h = h
tail-stay (suc n) q x h = every-drop (λ (r : Row). may_stay r ≡ true) 1 (drop n x) (every-drop (λ (r : Row). may_stay r ≡ true) n x h)

later-stay : (d : ℕ) (z : List Row) → 1 ≤ d → AllStay (drop 1 z) → AllStay (drop d z)
later-stay zero z some h = absurd (omega (arith, some))
later-stay (suc d) [] some h = tt
later-stay (suc d) (r ∷ z) some h = every-drop (λ (r : Row). may_stay r ≡ true) d z h

module _ (on : Constructs) where
  -- ---- where a part begins directly behind definitions
  blank-left : (k : Known) (n : ℕ) (line : Line) → is_paragraph k.before.leaf ≡ true → may_stay (row_of on k n line) ≡ true → (row_of on k n line).is_blank ≡ true → (row_of on k n line).is_left_blank ≡ true
  blank-left k n line text stay blank = by row.is_left_blank refl
    where
      row : Row
      row = row_of on k n line

      by : (b : Bool) → row.is_left_blank ≡ b → row.is_left_blank ≡ true
      by true e = e
      by false e =
          let stays : row.stays ≡ true = sym (ap (λ b. b || row.stays) e) ∙ stay in
          let begun : has_none row.begun ≡ true = and-left (has_none row.begun) (row.is_lazy || ((length row.went_on == k.before.depth) && (length k.before.stack == k.before.depth))) stays in
          let holds : holds_ending k.before.leaf ≡ false = ap holds_ending (paragraph-is k.before.leaf text) in
          (λ i. blank i && (begun i && not (stays i && holds i)))

  next-used : (k : Known) (n : ℕ) (ls : List Line) → is_paragraph k.before.leaf ≡ true → AllStay (rows_from on k n ls) → NextStarts on k n ls
  next-used k n [] text stay = tt
  next-used k n (line ∷ ls) text stay = by row.is_blank refl
    where
      row : Row
      row = row_of on k n line

      next : Known
      next = known_after on k row

      m : ℕ
      m = further (rows_from on next (suc n) ls)

      by : (b : Bool) → row.is_blank ≡ b → StartsAt on (state_on on (cond b 0 m) next (suc n) ls)
      by true e = closed-starts on next (suc n) ls (left-leaf on k n line (blank-left k n line text stay.0 e))
      by false e = none-starts on (state_on on m next (suc n) ls) (ap further (sym (rows-on on m next (suc n) ls)) ∙ further-none (rows_from on next (suc n) ls))

  -- a line that may stay, and is not blank: no paragraph is open before it
  not-open : (k : Known) (n : ℕ) (ls : List Line) (q : Row) (x : List Row) → StartsClosed on k n ls → rows_from on k n ls ≡ q ∷ x → may_stay q ≡ true → q.is_blank ≡ false → is_paragraph k.before.leaf ≡ false
  not-open k n [] q x starts e stay full = absurd (cc)
  not-open k n (line ∷ ls) q x starts e stay full = (starts kept (sym (ap (λ b. b || row.stays) kept) ∙ (ap may_stay same ∙ stay))).0.text
    where
      row : Row
      row = row_of on k n line

      first : (a b : Row) (xs ys : List Row) → a ∷ xs ≡ b ∷ ys → a ≡ b
      first a b xs ys e = cc

      same : row ≡ q
      same = first row q (rows_from on (known_after on k row) (suc n) ls) x e

      kept : row.is_left_blank ≡ false
      kept = ap (λ b. b && (has_none row.begun && not (row.stays && holds_ending k.before.leaf))) (ap (λ (r : Row). r.is_blank) same ∙ full)

  found-at-closed : (k : Known) (n : ℕ) (ls : List Line) → StartsClosed on k n ls → before_defined on false (rows_from on k n ls) < length (rows_from on k n ls) → Found on (before_defined on false (rows_from on k n ls)) k n ls
  found-at-closed k n [] starts less = absurd (omega (arith, less))
  found-at-closed k n (line ∷ ls) starts less = found-closed on k n line ls starts less

  found-at-used : (k : Known) (n : ℕ) (ls : List Line) → Used on k (rows_from on k n ls) → before_defined on false (rows_from on k n ls) < length (rows_from on k n ls) → Found on (before_defined on false (rows_from on k n ls)) k n ls
  found-at-used k n [] used less = absurd (omega (arith, less))
  found-at-used k n (line ∷ ls) used less = found-used on k n line ls used less

  -- no table begins in rows: then none behind the first is in one
  untabled-behind : (q : Row) (x : List Row) → before_table is_in_table (q ∷ x) ≡ length (q ∷ x) → NoTable on x
  untabled-behind q [] e = tt
  untabled-behind q (r ∷ x) e = by (untabled-behind r x) (is_in_table r) refl e
    where
      by : (before_table is_in_table (r ∷ x) ≡ length (r ∷ x) → NoTable on x) → (b : Bool) → is_in_table r ≡ b → cond b 0 (suc (before_table is_in_table (r ∷ x))) ≡ suc (suc (length x)) → NoTable on (r ∷ x)
      by later true f e = absurd (omega (arith, e))
      by later false f e = (f, later (omega (arith, e)))

  some-lines : (z : List Row) → 1 ≤ length z → 1 ≤ table_lines is_in_table z
  some-lines [] h = absurd (omega (arith, h))
  some-lines (q ∷ z) h = omega arith

  -- ---- rows to the end, by what is known behind them
  module _ (end : Known) where
    pub record At (Is : State on → Type 0) (rows : List Row) : Type 0 where
      pub state : State on
      pub are : rows ≡ rows_at on state
      pub known : known_behind on state.known state.number state.lines ≡ end
      pub deep : IsDeep on state.known
      pub is : Is state

    abbrev pub UsedAt : State on → Type 0
    UsedAt s = Used on s.known (rows_at on s)

    -- before rows that may be in a stretch: where a part begins, or behind a table
    abbrev pub BeforeAt : List Row → Type 0
    BeforeAt rows = At (StartsAt on) rows × AllStay (drop 1 rows)

    -- and without tables there, and directly behind definitions
    abbrev pub KnownAt : Bool → List Row → Type 0
    KnownAt false rows = At (StartsAt on) rows × AllStay (drop 1 rows) × NoTable on rows
    KnownAt true rows = At UsedAt rows × AllStay rows × NoTable on rows

    pub data Good (is_behind : Bool) (s : State on) : Type 0 where
      anew : is_behind ≡ false → StartsAt on s → Good is_behind s
      directly : is_behind ≡ begins_text (rows_at on s) → UsedAt s → AllStay (rows_at on s) → Good is_behind s

    -- where a stretch is: no definitions begin in it
    abbrev pub PlaceAt : Bool → List Row → Type 0
    PlaceAt is_behind rows = At (Good is_behind) rows × (before_defined on false rows ≡ length rows) × NoTable on rows

    -- behind the first table of rows
    behind-tables : (q : Row) (x : List Row) → BeforeAt (q ∷ x) → before_table is_in_table (q ∷ x) < length (q ∷ x) → BeforeAt (behind_table (q ∷ x))
    behind-tables q x h less =
        let s = h.0.state in
        let are = h.0.are in
        let n = before_table is_in_table (q ∷ x) in
        let z = drop n (q ∷ x) in
        let long = length-drop n (q ∷ x) in
        let some = some-lines z (omega (arith, less, long)) in
        let few : before_table is_in_table (rows_at on s) < length (rows_at on s) = subst (λ rows. before_table is_in_table rows < length rows) are less in
        let t = table_state on s.known s.number s.lines in (
          record {
            state = t;
            are = ap behind_table are ∙ table-rows on s.known s.number s.lines;
            known = sym (table-known on s.known s.number s.lines) ∙ h.0.known;
            deep = table-deep on s.known s.number s.lines h.0.deep;
            is = table-starts on s.known s.number s.lines few;
          },
          every-drop (λ (r : Row). may_stay r ≡ true) 1 (behind_table (q ∷ x)) (later-stay (table_lines is_in_table z) z some (tail-stay n q x h.1)),
        )

    -- rows without a table
    without-table : (q : Row) (x : List Row) → BeforeAt (q ∷ x) → before_table is_in_table (q ∷ x) ≡ length (q ∷ x) → KnownAt false (q ∷ x)
    without-table q x h whole =
        let first : is_in_table q ≡ false = ap (begins_in_table is_in_table) h.0.are ∙ first-untabled on h.0.state h.0.is in
        (h.0, h.1, (first, untabled-behind q x whole))

    -- directly behind the definitions that come next
    step-from : (q : Row) (x : List Row) (s : State on) → q ∷ x ≡ rows_at on s → known_behind on s.known s.number s.lines ≡ end → IsDeep on s.known → AllStay x → NoTable on (q ∷ x) → Found on (before_defined on false (q ∷ x)) s.known s.number s.lines
        → let z = drop (before_defined on false (q ∷ x)) (q ∷ x) in KnownAt true (drop (defined_in on z) z)
    step-from q x s are known deep stay untabled f =
        let n = before_defined on false (q ∷ x) in
        let z = drop n (q ∷ x) in
        let s1 = state_on on n s.known s.number s.lines in
        let z_is : z ≡ rows_at on s1 = ap (drop n) are ∙ rows-on on n s.known s.number s.lines in
        let d = defined_in on (rows_at on s1) in
        let s2 = state_on on d s1.known s1.number s1.lines in
        let back = rows-on on d s1.known s1.number s1.lines in
        let behind = tail-stay n q x stay in
        let used = used-behind on s1.known s1.number s1.lines f.begins (subst (λ l. AllStay (drop 1 l)) z_is behind) f.some in (
          record {
            state = s2;
            are = (λ i. drop (defined_in on (z_is i)) (z_is i)) ∙ back;
            known = sym (behind-on on d s1.known s1.number s1.lines) ∙ sym (behind-on on n s.known s.number s.lines) ∙ known;
            deep = deep-on on d s1.known s1.number s1.lines (deep-on on n s.known s.number s.lines deep);
            is = subst (Used on s2.known) back used;
          },
          later-stay (defined_in on z) z (subst (λ l. 1 ≤ defined_in on l) (sym z_is) f.some) behind,
          every-drop (λ (r : Row). is_in_table r ≡ false) (defined_in on z) z (every-drop (λ (r : Row). is_in_table r ≡ false) n (q ∷ x) untabled),
        )

    step : (p : Bool) (q : Row) (x : List Row) → KnownAt p (q ∷ x) → let n = before_defined on false (q ∷ x) in n < length (q ∷ x) → KnownAt true (drop (defined_in on (drop n (q ∷ x))) (drop n (q ∷ x)))
    step false q x h less =
        let a = h.0 in
        let s = a.state in
        let few : before_defined on false (rows_at on s) < length (rows_at on s) = subst (λ rows. before_defined on false rows < length rows) a.are less in
        step-from q x s a.are a.known a.deep h.1 h.2 (subst (λ rows. Found on (before_defined on false rows) s.known s.number s.lines) (sym a.are) (found-at-closed s.known s.number s.lines a.is few))
    step true q x h less =
        let a = h.0 in
        let s = a.state in
        let few : before_defined on false (rows_at on s) < length (rows_at on s) = subst (λ rows. before_defined on false rows < length rows) a.are less in
        step-from q x s a.are a.known a.deep h.1.1 h.2 (subst (λ rows. Found on (before_defined on false rows) s.known s.number s.lines) (sym a.are) (found-at-used s.known s.number s.lines a.is few))

    -- the last stretch, if it is the first of these rows
    at-first : (p : Bool) (q : Row) (x : List Row) → KnownAt p (q ∷ x) → before_defined on false (q ∷ x) ≡ length (q ∷ x) → PlaceAt (p && is_paragraph q.leaf) (q ∷ x)
    at-first false q x h whole = let a = h.0 in (record { state = a.state; are = a.are; known = a.known; deep = a.deep; is = anew refl a.is }, whole, h.2)
    at-first true q x h whole = let a = h.0 in (record { state = a.state; are = a.are; known = a.known; deep = a.deep; is = directly (ap begins_text a.are) a.is (subst AllStay a.are h.1) }, whole, h.2)

    -- if it is not
    at-later : (around : Part) (q : Row) (x : List Row) (s : State on) → q ∷ x ≡ rows_at on s → known_behind on s.known s.number s.lines ≡ end → IsDeep on s.known → AllStay x → NoTable on (q ∷ x) → NextStarts on s.known s.number s.lines → before_defined on false (q ∷ x) ≡ length (q ∷ x)
        → (f : Part) (front : List Part) (begin : Part) (blanks : List Part) → its_parts around (length (q ∷ x)) (q ∷ x) ≡ f ∷ front ++ (begin ∷ blanks) → q ∷ x ≡ flat_map all_rows (f ∷ front) ++ (begin.first ∷ (begin.more ++ firsts blanks))
        → begin.first.is_blank ≡ false → PlaceAt false (begin.first ∷ (begin.more ++ firsts blanks))
    at-later around q x s are known deep stay untabled next whole f front begin blanks e rows_are full =
        let last = begin.first ∷ (begin.more ++ firsts blanks) in
        let b : Begins on s.known s.number s.lines (f ∷ front) =
        part-begins on (its_frames around) (its_stands around) (length (q ∷ x)) s.known s.number s.lines next (f ∷ front) (λ none. absurd (cc)) begin blanks (ap (its_parts around (length (q ∷ x))) (sym are) ∙ e) in
        let t = b.state in
        let same : rows_at on t ≡ last = same-back b.above (rows_at on t) (flat_map all_rows (f ∷ front)) last (sym b.rows_are ∙ sym are ∙ rows_are) b.size in
        let stays : AllStay last = every-back (λ (r : Row). may_stay r ≡ true) (f.more ++ flat_map all_rows front) last (subst AllStay (ap (drop 1) rows_are) stay) in
        let shut = not-open t.known t.number t.lines begin.first (begin.more ++ firsts blanks) b.starts same stays.0 full in
        let all = b.whole false (λ none. absurd (cc)) (subst (λ rows. before_defined on false rows ≡ length rows) are whole) in (
          record { state = t; are = sym same; known = sym b.known ∙ known; deep = b.deep deep; is = anew refl b.starts },
          subst (λ rows. before_defined on false rows ≡ length rows) same (ap (λ c. before_defined on c (rows_at on t)) (sym shut) ∙ all),
          every-back (λ (r : Row). is_in_table r ≡ false) (flat_map all_rows (f ∷ front)) last (subst (NoTable on) rows_are untabled),
        )

    last : (around : Part) (p : Bool) (q : Row) (x : List Row) → KnownAt p (q ∷ x) → before_defined on false (q ∷ x) ≡ length (q ∷ x) → Placed around PlaceAt p q x
    last around p q x h whole [] begin blanks e are full stay = subst (PlaceAt (p && is_paragraph q.leaf)) are (at-first p q x h whole)
    last around false q x h whole (f ∷ front) begin blanks e are full stay =
        let a = h.0 in
        let s = a.state in
        at-later around q x s a.are a.known a.deep h.1 h.2 (all-next on s.known s.number s.lines a.is) whole f front begin blanks e are full
    last around true q x h whole (f ∷ front) begin blanks e are full stay =
        let a = h.0 in
        let s = a.state in
        at-later around q x s a.are a.known a.deep h.1.1 h.2 (next-used s.known s.number s.lines a.is.is_open (subst AllStay a.are h.1)) whole f front begin blanks e are full

    pub placing : (around : Part) → Placing on around BeforeAt KnownAt PlaceAt
    placing around = record { table = behind-tables; start = without-table; step = step; last = last around }

  -- ---- a document
  module _ (ls : List Line) where
    abbrev pub start : Known
    start = known_at_start on

    abbrev pub known_at_end : Known
    known_at_end = known_behind on start 1 ls

    pub begun : Begun (BeforeAt known_at_end) (rows on ls)
    begun front begin blanks e are full stay =
        let all = rows on ls in
        let last = begin.first ∷ (begin.more ++ firsts blanks) in
        let first = closed-starts on start 1 ls refl in
        let b : Begins on start 1 ls front = part-begins on frames_at standing (length all) start 1 ls (all-next on start 1 ls first) front (λ none. first) begin blanks (sym (real-parts (length all) all) ∙ e) in
        let t = b.state in
        let same : rows_at on t ≡ last = same-back b.above (rows_at on t) (flat_map all_rows front) last (sym b.rows_are ∙ are) b.size in
        (record { state = t; are = sym same; known = sym b.known; deep = b.deep (omega arith); is = b.starts }, stay)

  -- at a rest, with what is known there
  abbrev pub DocumentPlace : (t : ℕ) → (a : List ℕ) → Bool → List Row → Type 0
  DocumentPlace t a = PlaceAt (known_at_end (lines_in (virtual t a)))

  pub sections-with-places : (t : ℕ) (a b : List ℕ) → begins_at_document_rest on t a b ≡ true → goes_on_behind on (lines_in (virtual t a)) (lines_in (virtual t b)) ≡ true
      → (r : Row) (rs : List Row) → map (moved_row (line_endings a) (length a)) (document_rows on t b) ≡ r ∷ rs
      → SectionsJoin (DocumentPlace t a) (at_top r) (document_rows on t a) r rs (sections on (document_rows on t (a ++ b))) (sections on (document_rows on t a)) (map (moved_section (line_endings a) (length a)) (sections on (document_rows on t b)))
  sections-with-places t a b rest goes r rs is =
      let one = lines_in (virtual t a) in
      let k = known_at_end one in
      sections-placed on (BeforeAt k) (KnownAt k) (PlaceAt k) (placing k) t a b (begun one) rest goes r rs is

-- ==== Marks of a document at a rest where a stretch of lines goes on: those of its parts, but for the chunk at the seam.
-- ---- the white space in front
front-more : (n : ℕ) (line more : Line) → IsWhole line → n ≤ length (line_text line) → take n (line ++ more) ≡ take n (line_text line)
front-more n line more w few = let size = text-shorter line w in take-append-le n line more (omega (arith, few, size)) ∙ take_text line n w few

front-seats : (n : ℕ) (held : Bool) (line : Line) (ls : List Line) → IsWhole line → n ≤ length (line_text line) → take n (block_seats held (line ∷ ls)) ≡ take n (line_text line)
front-seats n true line ls w few = front-more n line (all_of ls) w few
front-seats n false line [] w few = refl
front-seats n false line (l ∷ ls) w few = front-more n line (body (l ∷ ls)) w few

indent-few : (r : Row) → r.columns ≡ 0 → indent (rest_of r) ≤ length (line_text r.line)
indent-few r e =
    let few = prefix_len-le-length is_white (text_of r.line) in
    let size = length-map (line_text r.line) (λ (s : Seat). s.byte) in
    let same : indent (rest_of r) ≡ indent (text_of r.line) = ap (λ n. indent (drop n (text_of r.line))) e in
    omega (arith, few, size, same)

module _ (bytes : List ℕ) where
  -- it does not matter what comes behind
  pub white-same : (is_behind : Bool) (p q : Part) → q.first ≡ p.first → IsPlainRow p.first → IsWhole p.first.line → part_white bytes is_behind q ≡ part_white bytes is_behind p
  white-same false p q e h w = refl
  white-same true p q e h w =
      let n = indent (rest_of p.first) in
      let few = indent-few p.first h.columns in
      (λ i. white bytes (take (indent (rest_of (e i))) (block_seats (is_held q) (lines_of (e i ∷ q.more)))))
      ∙ ap (white bytes) (front-seats n (is_held q) p.first.line (lines_of q.more) w few ∙ sym (front-seats n (is_held p) p.first.line (lines_of p.more) w few))

  -- ---- what stands between
  pub ending-is : (r : Row) (rs : List Row) → leaf_marks bytes name.LineEnding (ending_of (last_of r rs).line) ≡ last_end bytes (lines_of (r ∷ rs))
  ending-is r [] = refl
  ending-is r (q ∷ qs) = ending-is q qs

  pub part-ending : (p : Part) → p.first.is_blank ≡ false → is_held p ≡ false → ending_marks bytes p ≡ last_end bytes (lines_of (p.first ∷ p.more))
  part-ending p full held = (λ i. cond (held i) [] (leaf_marks bytes (cond (full i) name.BlankLineEnding name.LineEnding) (ending_of (last_of p.first p.more).line))) ∙ ending-is p.first p.more

  pub blanks-are : (rs : List Row) → flat_map (blank_marks bytes) rs ≡ leaf_blocks_marks bytes (map blank_line (lines_of rs))
  blanks-are [] = refl
  blanks-are (r ∷ rs) = ap (λ l. blank_marks bytes r ++ l) (blanks-are rs)

-- ---- what is plain
plain-row : (r : Row) → IsBare r → r.columns ≡ columns_of r.went_on + columns_of r.begun → IsPlainRow r
plain-row r h e = record { bare = h; columns = e ∙ (λ i. columns_of (h.0 i) + columns_of (h.1 i)) }

abbrev ColumnsAre : Row → Type 0
ColumnsAre r = r.columns ≡ columns_of r.went_on + columns_of r.begun

plain-rows : (rs : List Row) → AllByRecursion IsBare rs → AllByRecursion ColumnsAre rs → AllByRecursion IsPlainRow rs
plain-rows [] h k = tt
plain-rows (r ∷ rs) h k = (plain-row r h.0 k.0, plain-rows rs h.1 k.1)

module _ (around : Row) where
  plain-part : (p : Part) → IsSame (at_top around) p → IsPlainRow p.first → AllByRecursion IsPlainRow p.more → IsPlainPart p
  plain-part p s h k = record { frames = s.frames; stands = s.stands; first = h; more = k }

  plain-blanks : (ps : List Part) → AllByRecursion (IsSame (at_top around)) ps → AllByRecursion IsBlankPart ps → AllByRecursion IsPlainRow (firsts ps) → AllByRecursion IsPlainPart ps
  plain-blanks [] s b h = tt
  plain-blanks (p ∷ ps) s b h = (plain-part p s.0 h.0 (subst (AllByRecursion IsPlainRow) (sym b.0.alone) tt), plain-blanks ps s.1 b.1 h.1)

-- ---- at a seam
module _ (Place : Bool → List Row → Type 0) (bytes : List ℕ) (x : List Row) (r : Row) (rs : List Row) (whole first second : List Section) (h : SectionSeam Place (at_top r) x r rs whole first second)
    (read : AllByRecursion IsRead x) (bare : BareBehind x) (full : r.is_blank ≡ false) (plain : IsPlainRow r) (columns : AllByRecursion ColumnsAre rs) (ahead : (more left : List Row) → rs ≡ more ++ left → AllStay more → AllByRecursion IsBare more)
    (holds : is_held h.it.begin ≡ false) where
  abbrev pub q : Row
  q = h.it.begin.first

  abbrev inner : List Row
  inner = h.it.begin.more ++ firsts h.it.blanks

  pub here : AllByRecursion IsRead (q ∷ inner)
  here = every-back IsRead h.above (q ∷ inner) (subst (AllByRecursion IsRead) h.rows_are read)

  pub all-plain : AllByRecursion IsPlainRow (q ∷ inner)
  all-plain = plain-rows (q ∷ inner) (bare h.above q inner h.rows_are h.it.full h.it.stay) (every-map IsRead ColumnsAre (λ r k. k.columns) (q ∷ inner) here)

  pub begin-plain : IsPlainPart h.it.begin
  begin-plain = plain-part r h.it.begin h.within.begin_same all-plain.0 (every-front IsPlainRow h.it.begin.more (firsts h.it.blanks) all-plain.1)

  pub blanks-plain : AllByRecursion IsPlainPart h.it.blanks
  blanks-plain = plain-blanks r h.it.blanks h.within.blanks_same h.it.are_blank (every-back IsPlainRow h.it.begin.more (firsts h.it.blanks) all-plain.1)

  pub end-plain : IsPlainPart h.it.end
  end-plain =
      plain-part r h.it.end h.within.end_same (subst IsPlainRow (sym h.it.end_is) plain)
      (plain-rows h.it.end.more (ahead h.it.end.more h.end_rows.left h.end_rows.is h.it.end_stay) (every-front ColumnsAre h.it.end.more h.end_rows.left (subst (AllByRecursion ColumnsAre) h.end_rows.is columns)))

  pub end-full : h.it.end.first.is_blank ≡ false
  end-full = ap (λ (r : Row). r.is_blank) h.it.end_is ∙ full

  abbrev pub chunk-at-seam : ChunkSeam bytes (sections_marks bytes whole) (sections_marks bytes first) (sections_marks bytes second)
  chunk-at-seam =
      let begin = h.it.begin in
      let blanks = h.it.blanks in
      let end = h.it.end in
      let both = joined_part begin blanks end in
      let front = sections_marks bytes h.front in
      let w = part_white bytes h.within.is_behind begin in
      let white = white_columns bytes h.within.is_behind q in
      let before = lines_of (q ∷ begin.more) in
      let between = lines_of (firsts blanks) in
      let behind = lines_of (end.first ∷ end.more) in
      let after = after_marks bytes begin blanks end h.within.is_behind h.it.full end-full begin-plain end-plain blanks-plain h.it.are_blank h.front h.back in
      let held = same-held bytes begin blanks end h.within.is_behind h.it.full end-full begin-plain end-plain blanks-plain h.it.are_blank in
      let rows : lines_of (q ∷ both.more) ≡ (before ++ between) ++ behind =
      ap (λ l. q.line ∷ l) (map-append (λ (r : Row). r.line) (begin.more ++ firsts blanks) (end.first ∷ end.more) ∙ ap (λ l. l ++ behind) (map-append (λ (r : Row). r.line) begin.more (firsts blanks))) in
      record {
        front = front ++ w;
        before = before;
        blanks = between;
        behind = behind;
        back = after;
        white = white;
        is_held = is_held end;
        whole_is =
            ap (sections_marks bytes) h.whole_is
            ∙ whole-marks bytes begin blanks end h.within.is_behind h.it.full end-full begin-plain end-plain blanks-plain h.it.are_blank h.front h.back
            ∙ (λ i. front ++ (white-same bytes h.within.is_behind begin both refl all-plain.0 here.0.whole i ++ (stretch_chunk bytes (drop white (block_seats (held i) (rows i))) ++ after)))
            ∙ sym (append_assoc front w (stretch_chunk bytes (drop white (block_seats (is_held end) ((before ++ between) ++ behind))) ++ after));
        first_is =
            ap (sections_marks bytes) h.first_is
            ∙ first-marks bytes begin blanks end h.within.is_behind h.it.full end-full begin-plain end-plain blanks-plain h.it.are_blank h.front h.back
            ∙ (λ i. front ++ (w ++ (stretch_chunk bytes (drop white (block_seats (holds i) before)) ++ (part-ending bytes begin h.it.full holds i ++ blanks-are bytes (firsts blanks) i))))
            ∙ sym (append_assoc front w (stretch_chunk bytes (drop white (block_seats false before)) ++ marks_between bytes before between));
        second_is = ap (sections_marks bytes) h.second_is ∙ second-marks bytes begin blanks end h.within.is_behind h.it.full end-full begin-plain end-plain blanks-plain h.it.are_blank h.front h.back;
      }

-- ---- in bytes
module _ (on : Constructs) (t : ℕ) (a b : List ℕ) (rest : begins_at_document_rest on t a b ≡ true) (line : Line) (behind : List Line) (lines_are : lines_in (virtual t b) ≡ line ∷ behind)
    (goes : goes_on_behind on (lines_in (virtual t a)) (lines_in (virtual t b)) ≡ true) where
  abbrev one : List Line
  one = lines_in (virtual t a)

  abbrev n : ℕ
  n = line_endings a

  abbrev at_start : Known
  at_start = known_at_start on

  abbrev first_row : Row
  first_row = row_of on at_start 1 line

  abbrev pub seam_row : Row
  seam_row = moved_row n (length a) first_row

  abbrev pub seam_rows : List Row
  seam_rows = map (moved_row n (length a)) (rows_from on (known_after on at_start first_row) 2 behind)

  abbrev pub sections_of_both : List Section
  sections_of_both = sections on (document_rows on t (a ++ b))

  abbrev pub sections_before : List Section
  sections_before = sections on (document_rows on t a)

  abbrev pub sections_behind : List Section
  sections_behind = map (moved_section n (length a)) (sections on (document_rows on t b))

  pub at-rest : is_at_document_rest on one line ≡ true
  at-rest = sym (ap (first_at_document_rest on one) lines_are) ∙ and-right (begins_line b a) (first_at_document_rest on one (lines_in (virtual t b))) rest

  pub goes-behind : goes_on_behind on one (line ∷ behind) ≡ true
  goes-behind = sym (ap (goes_on_behind on one) lines_are) ∙ goes

  at-top : ((known_behind on at_start 1 one).before.stack ≡ []) × (has_none first_row.begun ≡ true)
  at-top = stretches-go-on-at-top on one line at-rest goes-behind

  begins-none : first_row.begun ≡ []
  begins-none = none_is first_row.begun at-top.1

  no-stack : (known_after on at_start first_row).before.stack ≡ []
  no-stack = by first_row.is_left_blank
    where
      by : (left : Bool) →
          (let b : Before = cond left (record at_start.before { depth = length first_row.went_on; leaf = closed }) (record { stack = containers_of first_row.went_on ++ containers_of first_row.begun; depth = length (containers_of first_row.went_on ++ containers_of first_row.begun); leaf = first_row.leaf }) in b).stack ≡ []
      by true = refl
      by false = ap containers_of begins-none

  pub all-rows-read : AllByRecursion IsRead (document_rows on t a)
  all-rows-read = all-read on at_start 1 one (whole-lines (virtual t a))

  pub bare-behind : BareBehind (document_rows on t a)
  bare-behind = bare-from on at_start 1 one at-top.0

  pub full-row : seam_row.is_blank ≡ false
  full-row = (goes-on on (length a) one line behind at-rest goes-behind).full

  pub plain-seam : IsPlainRow seam_row
  plain-seam = record { bare = (refl, ap (map (moved_prefix n)) begins-none); columns = ap (λ ps. columns_of first_row.went_on + columns_of ps) begins-none }

  pub seam-columns : AllByRecursion ColumnsAre seam_rows
  seam-columns = columns-read on n (length a) (known_after on at_start first_row) 2 behind

  pub seam-ahead : (more left : List Row) → seam_rows ≡ more ++ left → AllStay more → AllByRecursion IsBare more
  seam-ahead more left is stay = ahead-bare on n (length a) (known_after on at_start first_row) 2 behind more left no-stack is stay

  module _ (h : SectionSeam (DocumentPlace on t a) (at_top seam_row) (document_rows on t a) seam_row seam_rows sections_of_both sections_before sections_behind) where
    pub not-held : is_held h.it.begin ≡ false
    not-held =
        let shut = and-left (is_closed (known_behind on at_start 1 one).before.leaf) _ at-rest in
        let holds = last-holds-from on at_start 1 one h.above h.it.begin.first h.it.begin.more (firsts h.it.blanks) h.rows_are (omega arith) h.it.stay (lefts h.it.blanks h.it.are_blank) at-top.0 shut in
        ap (λ b. not h.it.begin.first.is_blank && b) holds ∙ and-false (not h.it.begin.first.is_blank)

    -- the first row of the stretch
    pub first-plain : IsPlainRow h.it.begin.first
    first-plain = (all-plain (DocumentPlace on t a) (a ++ b) (document_rows on t a) seam_row seam_rows sections_of_both sections_before sections_behind h all-rows-read bare-behind full-row plain-seam seam-columns seam-ahead not-held).0

    pub first-read : IsRead h.it.begin.first
    first-read = (here (DocumentPlace on t a) (a ++ b) (document_rows on t a) seam_row seam_rows sections_of_both sections_before sections_behind h all-rows-read bare-behind full-row plain-seam seam-columns seam-ahead not-held).0

    -- the marks of the document, and of its parts, by their sections
    abbrev pub seam_chunk : ChunkSeam (a ++ b) (sections_marks (a ++ b) sections_of_both) (sections_marks (a ++ b) sections_before) (sections_marks (a ++ b) sections_behind)
    seam_chunk = chunk-at-seam (DocumentPlace on t a) (a ++ b) (document_rows on t a) seam_row seam_rows sections_of_both sections_before sections_behind h all-rows-read bare-behind full-row plain-seam seam-columns seam-ahead not-held

  -- where the sections are those of both parts, so are the marks
  pub marks-apart : sections_of_both ≡ sections_before ++ sections_behind → sections_marks (a ++ b) sections_of_both ≡ sections_marks (a ++ b) sections_before ++ sections_marks (a ++ b) sections_behind
  marks-apart k =
      let two = lines_in (virtual t b) in
      let count = counted t a b (and-left (begins_line b a) (first_at_document_rest on one two) rest) in
      ap (sections_marks (a ++ b)) k
      ∙ apart (a ++ b) n (length a) (sections on (rows on one)) (sections on (rows on two)) (sections-are (λ m. m < suc n) on (rows on one) (rows-are (λ m. m < suc n) on at_start 1 one (λ m l u. omega (arith, u, count)) tt))
      (sections-are (λ m. 1 ≤ m) on (rows on two) (rows-are (λ m. 1 ≤ m) on at_start 1 two (λ m l u. l) tt))

  -- the sections are those of both parts, but for the section at the seam
  pub sections-join : SectionsJoin (DocumentPlace on t a) (at_top seam_row) (document_rows on t a) seam_row seam_rows sections_of_both sections_before sections_behind
  sections-join = sections-with-places on t a b rest goes seam_row seam_rows (λ i. map (moved_row n (length a)) (rows on (lines_are i)))
