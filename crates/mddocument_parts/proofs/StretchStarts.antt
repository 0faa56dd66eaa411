-- A stretch of lines of a document: where it begins, where it ends, and what is left of its text behind definitions.
use Rattle.std.proofs.Common.{Bool, List, [], ap, append_assoc, arith, cond, drop, false, inl, inr, length, length-append, length-take, nat_le, not, refl, subst, suc, sym, take, true, zero, ℕ, ◌&&◌, ◌++◌, ◌+◌, ◌<◌, ◌==◌, ◌||◌, ◌∙◌, ◌∷◌, ◌≡◌, ◌≤◌}
use Rattle.std.proofs.Math.Bool.{and-false}
use Rattle.std.proofs.lemmas.Bool.{false≢true, leb-true, not-true}
use Rattle.std.proofs.lemmas.List.{append-nil, length-map, map-append, take-append-drop}
use Rattle.std.proofs.lemmas.List.Sums.{prefix_len-le-length}
use Rattle.std.specs.List.{AllByRecursion, flat_map, prefix_len}
use Rattle.std.specs.Prelude.{is_some}
use Rattle.markdown_base.proofs.Common.{and-right}
use Rattle.markdown_base.proofs.Facts.Bools.{and-left}
use Rattle.markdown_base.specs.declared.configuration.Constructs.{Constructs}
use Rattle.mdinline_labels.specs.Definitions.{rest as rest_behind}
use Rattle.mdblock_leaf_blocks.specs.LeafBlocks.{Line, interrupts, text_of}
use Rattle.mdblock_leaf_blocks.specs.LineKinds.{blank, indent, indented, is_blank_line, is_far, kind_of_rest, line_kind, underline_rank, unindented}
use Rattle.mdblock_lines.specs.Containers.{Container}
use Rattle.mdblock_containers.proofs.DocumentRows.{take_of_take}
use Rattle.mdblock_containers.proofs.FrameFacts.{some_more}
use Rattle.mdblock_containers.specs.Prefixes.{columns_of, containers_of}
use Rattle.mdblock_containers.specs.Rows as without
use Rattle.mdblock_containers.specs.Rows.{Before, Leaf, Row, closed, has_none, holds_ending, is_paragraph, is_table, leaf_after, open_fence, open_html, open_paragraph, open_table, opened_by, rest_of}
use Rattle.mdblock_containers.specs.Skeleton.{Frame, Part, further}
use Rattle.mdblock_definitions.proofs.DefinedText.{all-lines, front-lines, lines-some, tens-both}
use Rattle.mdblock_definitions.proofs.PlainLetters.{open-not-blank}
use Rattle.mdblock_definitions.proofs.SectionCosts.{defined-paragraph, defined-text, nothing-behind}
use Rattle.mdblock_definitions.proofs.SectionLemmas.{few-lines, tens, tens-in}
use Rattle.mdblock_definitions.proofs.SectionTurns.{not-blank-some}
use Rattle.mdblock_definitions.proofs.Shorter.{definitions-shorter, left-begins}
use Rattle.mdblock_definitions.specs.Rows.{Known, is_behind_text, is_used_up, known_after, row_of, rows_from, underlines_nothing}
use Rattle.mdblock_definitions.specs.Sections.{before_defined, defined_in, is_in_table, lines_defined, lines_of as text_lines, paragraph_of, text_in}
use Rattle.mdblock_table_marks.specs.TableCuts.{before_table, begins_in_table, table_lines}
use Rattle.mdblock_definitions.specs.Skeleton.{all_rows}
use Rattle.mdblock_paragraphs.proofs.SaidRows.{paragraph-more, some-long, text_after}
use Rattle.mddocument_parts.proofs.CutsJoined.{behind_table}
use Rattle.mddocument_parts.proofs.DocumentLabels.{anew-untabled, leaf-behind, left-is-blank, own-row, stay-untabled}
use Rattle.mddocument_parts.proofs.JoinedDocument.{IsDeep, deep-next, last-holds-from}
use Rattle.mddocument_parts.proofs.JoinedMarks.{lines_of}
use Rattle.mddocument_parts.proofs.JoinedSections.{parts_by}
use Rattle.mddocument_parts.proofs.NoUnderlines.{Inside, begins, none-underlines, EndsBefore, NoTable, NoneUnderlines, are-plain, ends-before}
use Rattle.mddocument_parts.proofs.SectionRows.{AllLeft, LeftIsBlank}
use Rattle.mddocument_parts.proofs.WithoutContainers.Leaves.{leaf_next}
use Rattle.mddocument_parts.proofs.WithoutContainers.PlainParts.{IsBare, plain_before}
use Rattle.mddocument_parts.proofs.WithoutContainers.SameTexts.{Agree, agree-self}
use Rattle.mddocument_parts.specs.DocumentRests.{is_closed, known_behind}
use Rattle.mddocument_parts.specs.JoinedStretches.{AllStay, may_stay}
use Rattle.mddocument_parts.specs.Rests.{begins_near, kind_of_line}

-- ==== The first line of a part of a document: no leaf block is open before it, if it goes on with the lines before. So it opens what it opens alone.
-- behind a stretch no line goes on with it
pub further-none : (rs : List Row) → further (drop (further rs) rs) ≡ 0
further-none [] = refl
further-none (r ∷ rs) = by r.is_left_blank refl r.stays refl (nat_le 1 (further rs)) refl (further-none rs)
  where
    by : (left : Bool) → r.is_left_blank ≡ left → (stays : Bool) → r.stays ≡ stays → (some : Bool) → nat_le 1 (further rs) ≡ some → further (drop (further rs) rs) ≡ 0
        → further (drop (cond left (cond some (suc (further rs)) 0) (cond stays (suc (further rs)) 0)) (r ∷ rs)) ≡ 0
    by true e stays f true s h = h
    by true e stays f false s h = (λ i. cond (e i) (cond (s i) (suc (further rs)) 0) (cond r.stays (suc (further rs)) 0))
    by false e true f some s h = h
    by false e false f some s h = (λ i. cond (e i) (cond (nat_le 1 (further rs)) (suc (further rs)) 0) (cond (f i) (suc (further rs)) 0))

module _ (on : Constructs) where
  -- behind it a line opens what it opens alone: no leaf block is open, or a table, which ends there
  pub record IsShut (leaf : Leaf) : Type 0 where
    pub text : is_paragraph leaf ≡ false
    pub after : (rest : List ℕ) → leaf_after on leaf rest ≡ leaf_after on closed rest

  pub closed-shut : IsShut closed
  closed-shut = record { text = refl; after = λ rest. refl }

  pub table-shut : (leaf : Leaf) → is_table leaf ≡ true → IsShut leaf
  table-shut open_table e = record { text = refl; after = λ rest. refl }
  table-shut closed e = absurd (false≢true e)
  table-shut open_paragraph e = absurd (false≢true e)
  table-shut (open_fence f) e = absurd (false≢true e)
  table-shut (open_html kind) e = absurd (false≢true e)

  -- before a line that is not left blank, and that goes on with the lines before, none is, and the line is in no table
  abbrev pub Starts : Known → (number : ℕ) → Line → Type 0
  Starts k n line = (row_of on k n line).is_left_blank ≡ false → (row_of on k n line).stays ≡ true → IsShut k.before.leaf × (is_in_table (row_of on k n line) ≡ false)

  abbrev pub StartsClosed : Known → (number : ℕ) → List Line → Type 0
  StartsClosed k n [] = Unit {0}
  StartsClosed k n (line ∷ ls) = Starts k n line

  -- so it is in none at all
  pub starts-untabled : (k : Known) (n : ℕ) (line : Line) → Starts k n line → is_in_table (row_of on k n line) ≡ false
  starts-untabled k n line starts = by row.is_left_blank refl row.stays refl
    where
      row : Row
      row = row_of on k n line

      by : (left : Bool) → row.is_left_blank ≡ left → (stays : Bool) → row.stays ≡ stays → is_in_table row ≡ false
      by true e stays f = (left-is-blank on (open-not-blank on) k n line e).2
      by false e true f = (starts e f).1
      by false e false f = stay-untabled on (open-not-blank on) k n line f

  module _ (k : Known) (n : ℕ) (line : Line) (starts : Starts k n line) (kept : (row_of on k n line).is_left_blank ≡ false) where
    abbrev row : Row
    row = row_of on k n line

    abbrev plain : Row
    plain = without.row_of on k.before n line

    abbrev rest : List ℕ
    rest = rest_of plain

    pub no-text : is_behind_text k.before plain ≡ false
    no-text = by plain.stays refl
      where
        by : (b : Bool) → plain.stays ≡ b → (b && is_paragraph k.before.leaf) ≡ false
        by true e = (starts kept e).0.text
        by false e = refl

    none-underlined : underlines_nothing on k plain ≡ false
    none-underlined = ap (λ b. on.definition && (b && (is_some (underline_rank on rest) && is_used_up k.text))) no-text ∙ and-false on.definition

    before-closed : leaf_after on (cond plain.stays k.before.leaf closed) rest ≡ leaf_after on closed rest
    before-closed = by plain.stays refl
      where
        by : (b : Bool) → plain.stays ≡ b → leaf_after on (cond b k.before.leaf closed) rest ≡ leaf_after on closed rest
        by true e = (starts kept e).0.after rest
        by false e = refl

    -- a lazy line goes on with a paragraph
    not-lazy : plain.is_lazy ≡ false
    not-lazy = by plain.is_lazy refl
      where
        by : (b : Bool) → plain.is_lazy ≡ b → b ≡ false
        by false e = refl
        by true e =
            let all = length row.went_on == k.before.depth in
            let kind = not (interrupts (line_kind on rest)) in
            let inner = and-right (not all) (has_none row.begun && (is_paragraph k.before.leaf && kind)) e in
            let none = and-left (has_none row.begun) (is_paragraph k.before.leaf && kind) inner in
            let text = and-left (is_paragraph k.before.leaf) kind (and-right (has_none row.begun) (is_paragraph k.before.leaf && kind) inner) in
            let stays : row.stays ≡ true = (λ i. none i && (e i || (all && (length k.before.stack == k.before.depth)))) in
            sym text ∙ (starts kept stays).0.text

    leaf-is : row.leaf ≡ leaf_after on closed rest
    leaf-is =
        ap (λ (r : Row). r.leaf) (own-row on (open-not-blank on) k n line (starts-untabled k n line starts))
        ∙ ap (λ u. cond u open_paragraph plain.leaf) none-underlined
        ∙ (λ i. cond (kept i) closed (cond (not-lazy i) open_paragraph (before-closed i)))

    known-is : (known_after on k row).before ≡ (let all = containers_of row.went_on ++ containers_of row.begun in let b : Before = record { stack = all; depth = length all; leaf = row.leaf } in b)
    known-is =
        let all = containers_of row.went_on ++ containers_of row.begun in
        (λ i. cond (kept i) (record k.before { depth = length row.went_on; leaf = closed }) (cond (not-lazy i) (record k.before { leaf = row.leaf }) (let b : Before = record { stack = all; depth = length all; leaf = row.leaf } in b)))

    -- without containers, as lines that leaf blocks are read from
    pub head-leaf : IsBare row → row.is_blank ≡ false → leaf_next on closed line ≡ row.leaf
    head-leaf bare full =
        let columns : plain.columns ≡ 0 = (λ i. columns_of (bare.0 i) + columns_of (bare.1 i)) in
        let same : rest ≡ text_of line = ap (λ c. drop c (text_of line)) columns in
        let here : is_blank_line (text_of line) ≡ false = ap is_blank_line (sym same) ∙ full in
        ap (λ b. cond (b && true) closed (leaf_after on closed (text_of line))) here ∙ ap (leaf_after on closed) (sym same) ∙ sym leaf-is

    pub head-known : IsBare row → (known_after on k row).before ≡ plain_before on row.leaf
    head-known bare = known-is ∙ (λ i. let all = containers_of (bare.0 i) ++ containers_of (bare.1 i) in let b : Before = record { stack = all; depth = length all; leaf = row.leaf } in b)

    -- behind a blank line no leaf block is open
    blank-leaf : row.is_blank ≡ true → (known_after on k row).before.leaf ≡ closed
    blank-leaf e =
        let kind : line_kind on rest ≡ blank = ap (λ b. cond b blank (cond (is_far on rest) indented (kind_of_rest on (indent rest) (unindented rest)))) e in
        ap (λ (b : Before). b.leaf) known-is ∙ leaf-is ∙ ap (λ kind. opened_by on kind rest) kind

  -- ---- the first lines of parts
  -- what is known before lines that are left
  pub record State : Type 0 where
    pub known : Known
    pub number : ℕ
    pub lines : List Line

  abbrev pub rows_at : State → List Row
  rows_at s = rows_from on s.known s.number s.lines

  abbrev pub StartsAt : State → Type 0
  StartsAt s = StartsClosed s.known s.number s.lines

  -- so many lines on
  abbrev pub state_on : (m : ℕ) → Known → (number : ℕ) → List Line → State
  state_on zero k n ls = record { known = k; number = n; lines = ls }
  state_on (suc m) k n [] = record { known = k; number = n; lines = [] }
  state_on (suc m) k n (line ∷ ls) = state_on m (known_after on k (row_of on k n line)) (suc n) ls

  pub rows-on : (m : ℕ) (k : Known) (n : ℕ) (ls : List Line) → drop m (rows_from on k n ls) ≡ rows_at (state_on m k n ls)
  rows-on zero k n ls = refl
  rows-on (suc m) k n [] = refl
  rows-on (suc m) k n (line ∷ ls) = rows-on m (known_after on k (row_of on k n line)) (suc n) ls

  pub behind-on : (m : ℕ) (k : Known) (n : ℕ) (ls : List Line) → let s = state_on m k n ls in known_behind on k n ls ≡ known_behind on s.known s.number s.lines
  behind-on zero k n ls = refl
  behind-on (suc m) k n [] = refl
  behind-on (suc m) k n (line ∷ ls) = behind-on m (known_after on k (row_of on k n line)) (suc n) ls

  -- no stretch goes on with them
  pub none-starts : (s : State) → further (rows_at s) ≡ 0 → StartsAt s
  none-starts s e = by s.lines refl e
    where
      by : (ls : List Line) → s.lines ≡ ls → further (rows_from on s.known s.number ls) ≡ 0 → StartsClosed s.known s.number ls
      by [] is e = tt
      by (line ∷ ls) is e = λ kept stays.
          let n = further (rows_from on (known_after on s.known (row_of on s.known s.number line)) (suc s.number) ls) in
          let some : further (rows_from on s.known s.number (line ∷ ls)) ≡ suc n = (λ i. cond (kept i) (cond (nat_le 1 n) (suc n) 0) (cond (stays i) (suc n) 0)) in
          absurd (omega (arith, e, some))

  pub closed-starts : (k : Known) (n : ℕ) (ls : List Line) → k.before.leaf ≡ closed → StartsClosed k n ls
  closed-starts k n [] e = tt
  closed-starts k n (line ∷ ls) e = λ kept stays. (subst IsShut (sym e) closed-shut, anew-untabled on (open-not-blank on) k n line e)

  pub left-leaf : (k : Known) (n : ℕ) (line : Line) → (row_of on k n line).is_left_blank ≡ true → (known_after on k (row_of on k n line)).before.leaf ≡ closed
  left-leaf k n line e =
      let row = row_of on k n line in
      let all = containers_of row.went_on ++ containers_of row.begun in
      ap (λ left. (let b : Before = cond left (record k.before { depth = length row.went_on; leaf = closed }) (cond row.is_lazy (record k.before { leaf = row.leaf }) (record { stack = all; depth = length all; leaf = row.leaf })) in b).leaf) e

  -- behind the part that begins with a line
  next-starts : (k : Known) (n : ℕ) (line : Line) (ls : List Line) → StartsClosed k n (line ∷ ls)
      → let row = row_of on k n line in let next = known_after on k row in StartsAt (state_on (cond row.is_blank 0 (further (rows_from on next (suc n) ls))) next (suc n) ls)
  next-starts k n line ls starts = by row.is_blank refl
    where
      row : Row
      row = row_of on k n line

      next : Known
      next = known_after on k row

      m : ℕ
      m = further (rows_from on next (suc n) ls)

      leaf : row.is_blank ≡ true → (left : Bool) → row.is_left_blank ≡ left → next.before.leaf ≡ closed
      leaf e true f = left-leaf k n line f
      leaf e false f = blank-leaf k n line starts f e

      by : (b : Bool) → row.is_blank ≡ b → StartsAt (state_on (cond b 0 m) next (suc n) ls)
      by true e = closed-starts next (suc n) ls (leaf e row.is_left_blank refl)
      by false e = none-starts (state_on m next (suc n) ls) (ap further (sym (rows-on m next (suc n) ls)) ∙ further-none (rows_from on next (suc n) ls))

  -- behind the part that begins with the first of lines
  abbrev pub NextStarts : Known → (number : ℕ) → List Line → Type 0
  NextStarts k n [] = Unit {0}
  NextStarts k n (line ∷ ls) =
      let row = row_of on k n line in
      let next = known_after on k row in
      StartsAt (state_on (cond row.is_blank 0 (further (rows_from on next (suc n) ls))) next (suc n) ls)

  pub all-next : (k : Known) (n : ℕ) (ls : List Line) → StartsClosed k n ls → NextStarts k n ls
  all-next k n [] h = tt
  all-next k n (line ∷ ls) h = next-starts k n line ls h

  -- ---- behind a table
  -- behind a line of a table a table is open
  table-behind : (k : Known) (n : ℕ) (line : Line) → is_in_table (row_of on k n line) ≡ true → IsShut (known_after on k (row_of on k n line)).before.leaf
  table-behind k n line e = by row.is_left_blank refl row.is_lazy
    where
      row : Row
      row = row_of on k n line

      all : List Container
      all = containers_of row.went_on ++ containers_of row.begun

      by : (left : Bool) → row.is_left_blank ≡ left → (lazy : Bool)
          → IsShut (let b : Before = cond left (record k.before { depth = length row.went_on; leaf = closed }) (cond lazy (record k.before { leaf = row.leaf }) (record { stack = all; depth = length all; leaf = row.leaf })) in b).leaf
      by true f lazy = absurd (false≢true (sym (left-is-blank on (open-not-blank on) k n line f).2 ∙ e))
      by false f true = table-shut row.leaf e
      by false f false = table-shut row.leaf e

  table-end : (k : Known) (n : ℕ) (ls : List Line) → (begins_in_table is_in_table (rows_from on k n ls) ≡ false → IsShut k.before.leaf) → StartsAt (state_on (prefix_len is_in_table (rows_from on k n ls)) k n ls)
  table-end k n [] shut = tt
  table-end k n (line ∷ ls) shut =
      by (table-end (known_after on k (row_of on k n line)) (suc n) ls) (is_in_table (row_of on k n line)) refl
    where
      row : Row
      row = row_of on k n line

      next : Known
      next = known_after on k row

      many : ℕ
      many = prefix_len is_in_table (rows_from on next (suc n) ls)

      by : ((begins_in_table is_in_table (rows_from on next (suc n) ls) ≡ false → IsShut next.before.leaf) → StartsAt (state_on many next (suc n) ls)) → (b : Bool) → is_in_table row ≡ b → StartsAt (state_on (cond b (1 + many) 0) k n (line ∷ ls))
      by later true e = let one : 1 + many ≡ suc many = omega arith in subst (λ m. StartsAt (state_on m k n (line ∷ ls))) (sym one) (later (λ none. table-behind k n line e))
      by later false e = λ kept stays. (shut e, e)

  -- behind the table whose header row is the first of lines
  header-starts : (k : Known) (n : ℕ) (ls : List Line) → begins_in_table is_in_table (drop 1 (rows_from on k n ls)) ≡ true → StartsAt (state_on (table_lines is_in_table (rows_from on k n ls)) k n ls)
  header-starts k n [] e = absurd (false≢true e)
  header-starts k n (line ∷ ls) e = table-end (known_after on k (row_of on k n line)) (suc n) ls (λ none. absurd (false≢true (sym none ∙ e)))

  table-there : (all : List Row) → before_table is_in_table all < length all → begins_in_table is_in_table (drop 1 (drop (before_table is_in_table all) all)) ≡ true
  table-there [] less = absurd (omega (arith, less))
  table-there (q ∷ x) less = by (table-there x) (begins_in_table is_in_table x) refl less
    where
      by : (before_table is_in_table x < length x → begins_in_table is_in_table (drop 1 (drop (before_table is_in_table x) x)) ≡ true) → (b : Bool) → begins_in_table is_in_table x ≡ b → cond b 0 (suc (before_table is_in_table x)) < suc (length x)
          → begins_in_table is_in_table (drop 1 (drop (cond b 0 (suc (before_table is_in_table x))) (q ∷ x))) ≡ true
      by later true e less = e
      by later false e less = later (omega (arith, less))

  -- behind the first table of lines
  abbrev pub table_state : Known → (number : ℕ) → List Line → State
  table_state k n ls =
      let s = state_on (before_table is_in_table (rows_from on k n ls)) k n ls in
      state_on (table_lines is_in_table (rows_at s)) s.known s.number s.lines

  pub table-rows : (k : Known) (n : ℕ) (ls : List Line) → behind_table (rows_from on k n ls) ≡ rows_at (table_state k n ls)
  table-rows k n ls =
      let m = before_table is_in_table (rows_from on k n ls) in
      let s = state_on m k n ls in
      let there = rows-on m k n ls in
      (λ i. drop (table_lines is_in_table (there i)) (there i)) ∙ rows-on (table_lines is_in_table (rows_at s)) s.known s.number s.lines

  pub table-starts : (k : Known) (n : ℕ) (ls : List Line) → before_table is_in_table (rows_from on k n ls) < length (rows_from on k n ls) → StartsAt (table_state k n ls)
  table-starts k n ls less =
      let m = before_table is_in_table (rows_from on k n ls) in
      let s = state_on m k n ls in
      header-starts s.known s.number s.lines (sym (ap (λ rows. begins_in_table is_in_table (drop 1 rows)) (rows-on m k n ls)) ∙ table-there (rows_from on k n ls) less)

  pub table-known : (k : Known) (n : ℕ) (ls : List Line) → let s = table_state k n ls in known_behind on k n ls ≡ known_behind on s.known s.number s.lines
  table-known k n ls =
      let m = before_table is_in_table (rows_from on k n ls) in
      let s = state_on m k n ls in
      behind-on m k n ls ∙ behind-on (table_lines is_in_table (rows_at s)) s.known s.number s.lines

  -- where a part begins, by any spans
  pub record Begins (k : Known) (n : ℕ) (ls : List Line) (front : List Part) : Type 0 where
    pub above : List Row
    pub state : State
    pub rows_are : rows_from on k n ls ≡ above ++ rows_at state
    pub size : length above ≡ length (flat_map all_rows front)
    pub starts : StartsAt state
    pub known : known_behind on k n ls ≡ known_behind on state.known state.number state.lines
    pub deep : IsDeep on k → IsDeep on state.known
    pub whole : (b : Bool) → (front ≡ [] → is_paragraph k.before.leaf ≡ b) → before_defined on b (rows_from on k n ls) ≡ length (rows_from on k n ls) → before_defined on (is_paragraph state.known.before.leaf) (rows_at state) ≡ length (rows_at state)

  pub deep-on : (m : ℕ) (k : Known) (n : ℕ) (ls : List Line) → IsDeep on k → IsDeep on (state_on m k n ls).known
  deep-on zero k n ls h = h
  deep-on (suc m) k n [] h = h
  deep-on (suc m) k n (line ∷ ls) h = deep-on m (known_after on k (row_of on k n line)) (suc n) ls (deep-next on k n line h)

  pub table-deep : (k : Known) (n : ℕ) (ls : List Line) → IsDeep on k → IsDeep on (table_state k n ls).known
  table-deep k n ls h =
      let m = before_table is_in_table (rows_from on k n ls) in
      let s = state_on m k n ls in
      deep-on (table_lines is_in_table (rows_at s)) s.known s.number s.lines (deep-on m k n ls h)

  -- the first of lines is in no table
  pub first-untabled : (s : State) → StartsAt s → begins_in_table is_in_table (rows_at s) ≡ false
  first-untabled s starts = by s.lines starts
    where
      by : (ls : List Line) → StartsClosed s.known s.number ls → begins_in_table is_in_table (rows_from on s.known s.number ls) ≡ false
      by [] h = refl
      by (line ∷ ls) h = starts-untabled s.known s.number line h

  -- no definitions begin in lines: nor behind the first
  pub whole-next : (p : Bool) (r : Row) (rs : List Row) → before_defined on p (r ∷ rs) ≡ length (r ∷ rs) → ((not p && nat_le 1 (defined_in on (r ∷ rs))) ≡ false) × (before_defined on (is_paragraph r.leaf) rs ≡ length rs)
  whole-next p r rs h = by (not p && nat_le 1 (defined_in on (r ∷ rs))) refl h
    where
      by : (b : Bool) → (not p && nat_le 1 (defined_in on (r ∷ rs))) ≡ b → cond b 0 (suc (before_defined on (is_paragraph r.leaf) rs)) ≡ suc (length rs) → ((not p && nat_le 1 (defined_in on (r ∷ rs))) ≡ false) × (before_defined on (is_paragraph r.leaf) rs ≡ length rs)
      by true e h = absurd (omega (arith, h))
      by false e h = (e, omega (arith, h))

  whole-on : (m : ℕ) (k : Known) (n : ℕ) (ls : List Line) → before_defined on (is_paragraph k.before.leaf) (rows_from on k n ls) ≡ length (rows_from on k n ls)
      → let s = state_on m k n ls in before_defined on (is_paragraph s.known.before.leaf) (rows_at s) ≡ length (rows_at s)
  whole-on zero k n ls h = h
  whole-on (suc m) k n [] h = refl
  whole-on (suc m) k n (line ∷ ls) h =
      let r = row_of on k n line in
      let rs = rows_from on (known_after on k r) (suc n) ls in
      whole-on m (known_after on k r) (suc n) ls (ap (λ b. before_defined on b rs) (leaf-behind on (open-not-blank on) k n line) ∙ (whole-next (is_paragraph k.before.leaf) r rs h).1)

  module _ (F : Row → List Row → List Frame) (S : Row → List Row → List Container) where
    pub part-begins : (bound : ℕ) (k : Known) (n : ℕ) (ls : List Line) → NextStarts k n ls → (front : List Part) → (front ≡ [] → StartsClosed k n ls) → (p : Part) (ps : List Part) → parts_by F S bound (rows_from on k n ls) ≡ front ++ (p ∷ ps) → Begins k n ls front
    part-begins bound k n ls next [] starts p ps e = record { above = []; state = record { known = k; number = n; lines = ls }; rows_are = refl; size = refl; starts = starts refl; known = refl; deep = λ h. h; whole = λ b e h. ap (λ c. before_defined on c (rows_from on k n ls)) (e refl) ∙ h }
    part-begins zero k n ls after (f ∷ front) starts p ps e = absurd (cc)
    part-begins (suc bound) k n [] after (f ∷ front) starts p ps e = absurd (cc)
    part-begins (suc bound) k n (line ∷ ls) after (f ∷ front) starts p ps e =
        let row = row_of on k n line in
        let next = known_after on k row in
        let rows = rows_from on next (suc n) ls in
        let m = cond row.is_blank 0 (further rows) in
        let s = state_on m next (suc n) ls in
        let part : Part = record { first = row; more = take m rows; frames = F row rows; stands = S row rows } in
        let both = heads-of part f (parts_by F S bound (drop m rows)) (front ++ (p ∷ ps)) e in
        let rest = part-begins bound s.known s.number s.lines (all-next s.known s.number s.lines after) front (λ none. after) p ps (ap (parts_by F S bound) (sym (rows-on m next (suc n) ls)) ∙ both.1) in
        let size = rest.size in
        let whole : rows ≡ take m rows ++ rows_at s = sym (take-append-drop m rows) ∙ ap (λ l. take m rows ++ l) (rows-on m next (suc n) ls) in
        let long : length (all_rows f ++ flat_map all_rows front) ≡ length (all_rows part ++ flat_map all_rows front) = ap (λ (q : Part). length (all_rows q ++ flat_map all_rows front)) (sym both.0) in
        let one = length-append (all_rows part) (flat_map all_rows front) in
        let two = length-append (all_rows part) rest.above in
        record {
          above = all_rows part ++ rest.above;
          state = rest.state;
          rows_are = ap (λ l. row ∷ l) (whole ∙ ap (λ l. take m rows ++ l) rest.rows_are ∙ sym (append_assoc (take m rows) rest.above (rows_at rest.state)));
          size = omega (arith, size, long, one, two);
          starts = rest.starts;
          known = behind-on m next (suc n) ls ∙ rest.known;
          deep = λ h. rest.deep (deep-on m next (suc n) ls (deep-next on k n line h));
          whole = λ b none h. rest.whole (is_paragraph s.known.before.leaf) (λ none. refl) (whole-at b h);
        }
      where
        heads-of : (a b : Part) (xs ys : List Part) → a ∷ xs ≡ b ∷ ys → (a ≡ b) × (xs ≡ ys)
        heads-of a b xs ys e = (cc, cc)

        whole-at : (b : Bool) → before_defined on b (rows_from on k n (line ∷ ls)) ≡ length (rows_from on k n (line ∷ ls))
            → let row = row_of on k n line in
            let s = state_on (cond row.is_blank 0 (further (rows_from on (known_after on k row) (suc n) ls))) (known_after on k row) (suc n) ls in
            before_defined on (is_paragraph s.known.before.leaf) (rows_at s) ≡ length (rows_at s)
        whole-at b h =
            let row = row_of on k n line in
            let next = known_after on k row in
            let rows = rows_from on next (suc n) ls in
            whole-on (cond row.is_blank 0 (further rows)) next (suc n) ls (ap (λ b. before_defined on b rows) (leaf-behind on (open-not-blank on) k n line) ∙ (whole-next b row rows h).1)

-- ==== A stretch without containers that begins where a part does, and in which no definitions begin: it ends where no leaf block may go on, if a line goes on with it.
module _ (on : Constructs) where
  -- rows have the lines of which they are made
  pub rows-lines : (k : Known) (n : ℕ) (ls : List Line) → lines_of (rows_from on k n ls) ≡ ls
  rows-lines k n [] = refl
  rows-lines k n (line ∷ ls) = ap (λ l. line ∷ l) (rows-lines (known_after on k (row_of on k n line)) (suc n) ls)

  -- where definitions are off, no line is text for them
  none-off : on.definition ≡ false → (k : Known) (n : ℕ) (ls : List Line) → NoneUnderlines on k n ls
  none-off off k n [] = tt
  none-off off k n (line ∷ ls) =
      let plain = without.row_of on k.before n line in
      (ap (λ b. b && (is_behind_text k.before plain && (is_some (underline_rank on (rest_of plain)) && is_used_up k.text))) off, none-off off (known_after on k (row_of on k n line)) (suc n) ls)

  -- A stretch, by what is known behind its first line, and by a line of which leaf blocks are read in place of that
  module _ (k : Known) (n : ℕ) (line : Line) (ls : List Line) where
    abbrev q : Row
    q = row_of on k n line

    abbrev next : Known
    next = known_after on k q

    abbrev behind : List Row
    behind = rows_from on next (suc n) ls

    pub stretch-ends : NoTable on behind → (x : Line) → next.before ≡ plain_before on q.leaf → is_blank_line (text_of x) ≡ false → leaf_next on closed x ≡ q.leaf → ((defines : on.definition ≡ true) → is_paragraph q.leaf ≡ true → Inside on defines next behind)
        → before_defined on (is_paragraph q.leaf) behind ≡ length behind → AllByRecursion IsBare behind → AllStay behind → IsDeep on k → (more bs : List Row) → behind ≡ more ++ bs → AllLeft bs → further behind ≡ length more
        → (known_behind on k n (line ∷ ls)).before.stack ≡ [] → is_closed (known_behind on k n (line ∷ ls)).before.leaf ≡ true → (l : Line) → begins_near (kind_of_line on l) ≡ true → EndsBefore on (x ∷ lines_of more) (lines_of bs) l
    stretch-ends untabled x known full opens inside whole bare stay deep more bs are lefts reach stack shut l near =
        let lines-are : lines_of more ++ lines_of bs ≡ ls = sym (map-append (λ (r : Row). r.line) more bs) ∙ ap lines_of (sym are) ∙ rows-lines next (suc n) ls in
        ends-before on next (suc n) q ls more bs x (lines_of more) (lines_of bs) l
        (are-plain on next (suc n) ls q.leaf known bare untabled none) are (ap further (sym are) ∙ reach)
        (last-holds-from on k n (line ∷ ls) [] q more bs (ap (λ rs. q ∷ rs) are) deep (subst AllStay are stay) lefts stack shut) shut
        full opens (length-map more (λ (r : Row). r.line))
        (ap (λ (x : List Line). length x) lines-are) (subst (λ xs. Agree xs ls) (sym lines-are) (agree-self ls)) near
      where
        leaf : next.before.leaf ≡ q.leaf
        leaf = ap (λ (b : Before). b.leaf) known

        none : NoneUnderlines on next (suc n) ls
        none = by on.definition refl
          where
            by : (b : Bool) → on.definition ≡ b → NoneUnderlines on next (suc n) ls
            by false off = none-off off next (suc n) ls
            by true defines = none-underlines on defines next (suc n) ls stay untabled (λ e. inside defines (sym (ap is_paragraph leaf) ∙ e)) (ap (λ l. before_defined on (is_paragraph l) behind) leaf ∙ whole)

    -- from the first line of a part on, where no definitions begin in the stretch
    module _ (starts : StartsClosed on k n (line ∷ ls)) (full : q.is_blank ≡ false) where
      kept : q.is_left_blank ≡ false
      kept = ap (λ b. b && (has_none q.begun && not (q.stays && holds_ending k.before.leaf))) full

      pub stretch-ends-before : NoTable on behind → before_defined on false (q ∷ behind) ≡ length (q ∷ behind) → AllByRecursion IsBare (q ∷ behind) → AllStay behind → IsDeep on k → (more bs : List Row) → behind ≡ more ++ bs → AllLeft bs → further behind ≡ length more
          → (known_behind on k n (line ∷ ls)).before.stack ≡ [] → is_closed (known_behind on k n (line ∷ ls)).before.leaf ≡ true → (l : Line) → begins_near (kind_of_line on l) ≡ true → EndsBefore on (lines_of (q ∷ more)) (lines_of bs) l
      stretch-ends-before untabled whole bare stay deep more bs are lefts reach stack shut l near =
          let columns : q.columns ≡ 0 = (λ i. columns_of (bare.0.0 i) + columns_of (bare.0.1 i)) in
          let same : rest_of q ≡ text_of line = ap (λ c. drop c (text_of line)) columns in
          let parts = whole-next on false q behind whole in
          stretch-ends untabled line (head-known on k n line starts kept bare.0) (ap is_blank_line (sym same) ∙ full) (head-leaf on k n line starts kept bare.0 full)
          (λ defines e. begins on defines k n line behind e (no-text on k n line starts kept) parts.0) parts.1 bare.1 stay deep more bs are lefts reach stack shut l near

-- ==== Directly behind the definitions of a paragraph: its text so far is that of the definitions, and nothing is left of it.
-- ---- texts
-- nothing is left of the lines of definitions
lines-used : (rs : List Row) → 1 ≤ lines_defined (text_in rs) → rest_behind (text_in (take (lines_defined (text_in rs)) rs)) ≡ []
lines-used rs h = by (rest_behind (text_in rs)) refl
  where
    by : (w : List ℕ) → rest_behind (text_in rs) ≡ w → rest_behind (text_in (take (lines_defined (text_in rs)) rs)) ≡ []
    by [] e =
        let none = ap text_lines e in
        let all : lines_defined (text_in rs) ≡ text_lines (text_in rs) = omega (arith, none) in
        ap (λ n. rest_behind (text_in (take n rs))) all ∙ ap (λ l. rest_behind (text_in l)) (all-lines rs (omega (arith, h, all))) ∙ e
    by (b ∷ bs) e =
        let text = text_in rs in
        let size = ap (λ (l : List ℕ). length l) e in
        let some : 0 < length (rest_behind text) = omega (arith, size) in
        elim (left-begins (length text) text (omega arith) some) [
          | inl own ↦ let same = ap text_lines own in absurd (omega (arith, h, same))
          | inr left ↦
              let w = rest_behind text in
              let x = left.front in
              let long = ap (λ (l : List ℕ). length l) left.is in
              let parts = length-append x (10 ∷ w) in
              let more : 0 < length text = omega (arith, long, parts) in
              let one = lines-some text more in
              let two = lines-some w some in
              let three = ap tens left.is in
              let four = tens-both x (10 ∷ w) in
              let count : lines_defined text ≡ tens x + 1 = omega (arith, one, two, three, four) in
              ap (λ n. rest_behind (text_in (take n rs))) count ∙ ap rest_behind (sym (front-lines rs x w left.is)) ∙ (definitions-shorter w some (length x) x (omega arith) (ap rest_behind (sym left.is))).1
        ]

abbrev is_open : Row → Bool
is_open r = is_paragraph r.leaf

-- lines of a paragraph, and those behind them
behind-cut : (d : ℕ) (rs : List Row) → d ≤ prefix_len is_open rs → text_after (paragraph_of rs) ≡ text_after (take d rs) ++ text_after (paragraph_of (drop d rs))
behind-cut zero rs h = refl
behind-cut (suc d) [] h = absurd (omega (arith, h))
behind-cut (suc d) (r ∷ rs) h = by (behind-cut d rs) (is_open r) refl h
  where
    by : (d ≤ prefix_len is_open rs → text_after (paragraph_of rs) ≡ text_after (take d rs) ++ text_after (paragraph_of (drop d rs))) → (b : Bool) → is_open r ≡ b → suc d ≤ cond b (1 + prefix_len is_open rs) 0 → text_after (paragraph_of (r ∷ rs)) ≡ text_after (take (suc d) (r ∷ rs)) ++ text_after (paragraph_of (drop d rs))
    by later false e k = absurd (omega (arith, k))
    by later true e k =
        ap text_after (paragraph-more r rs e)
        ∙ ap (λ l. 10 ∷ (rest_of r ++ l)) (later (omega (arith, k)))
        ∙ ap (λ l. 10 ∷ l) (sym (append_assoc (rest_of r) (text_after (take d rs)) (text_after (paragraph_of (drop d rs)))))

module _ (on : Constructs) where
  -- Directly behind definitions: their text is used up, and the paragraph goes on behind it or ends
  pub record Used (k : Known) (rows : List Row) : Type 0 where
    pub defines : on.definition ≡ true
    pub is_open : is_paragraph k.before.leaf ≡ true
    pub used : is_used_up k.text ≡ true
    pub text : has_none k.text ≡ false
    pub few : lines_defined (k.text ++ text_after (paragraph_of rows)) ≤ text_lines k.text
    pub none : defined_in on rows ≡ 0

  -- the text of an open paragraph, so many lines on
  pub record Grown (m : ℕ) (k : Known) (n : ℕ) (ls : List Line) : Type 0 where
    pub is_open : is_paragraph (state_on on m k n ls).known.before.leaf ≡ true
    pub text : (state_on on m k n ls).known.text ≡ k.text ++ text_after (take m (rows_from on k n ls))

  -- a row of a paragraph is not left blank, and stays if it may be in a stretch
  not-left : (r : Row) → LeftIsBlank r → is_paragraph r.leaf ≡ true → r.is_left_blank ≡ false
  not-left r empty text = by r.is_left_blank refl
    where
      by : (b : Bool) → r.is_left_blank ≡ b → b ≡ false
      by true e = let both : true ≡ false = sym text ∙ (empty e).1 in absurd (cc)
      by false e = refl

  stays-open : (r : Row) → LeftIsBlank r → may_stay r ≡ true → is_paragraph r.leaf ≡ true → r.stays ≡ true
  stays-open r empty stay text = sym (ap (λ b. b || r.stays) (not-left r empty text)) ∙ stay

  grown : (m : ℕ) (k : Known) (n : ℕ) (ls : List Line) → is_paragraph k.before.leaf ≡ true → AllStay (rows_from on k n ls) → m ≤ prefix_len is_open (rows_from on k n ls) → Grown m k n ls
  grown zero k n ls e stay few = record { is_open = e; text = sym (append-nil k.text) }
  grown (suc m) k n [] e stay few = absurd (omega (arith, few))
  grown (suc m) k n (line ∷ ls) e stay few = by (grown m (known_after on k (row_of on k n line)) (suc n) ls) (is_open (row_of on k n line)) refl few
    where
      row : Row
      row = row_of on k n line

      next : Known
      next = known_after on k row

      rows : List Row
      rows = rows_from on next (suc n) ls

      by : (is_paragraph next.before.leaf ≡ true → AllStay rows → m ≤ prefix_len is_open rows → Grown m next (suc n) ls) → (b : Bool) → is_open row ≡ b → suc m ≤ cond b (1 + prefix_len is_open rows) 0 → Grown (suc m) k n (line ∷ ls)
      by later false f few = absurd (omega (arith, few))
      by later true f few =
          let stays = stays-open row (left-is-blank on (open-not-blank on) k n line) stay.0 f in
          let text : next.text ≡ k.text ++ 10 ∷ rest_of row = (λ i. cond (f i) (cond (stays i && e i) (k.text ++ 10 ∷ rest_of row) (rest_of row)) []) in
          let more = later (leaf-behind on (open-not-blank on) k n line ∙ f) stay.1 (omega (arith, few)) in
          record {
            is_open = more.is_open;
            text = more.text ∙ ap (λ t. t ++ text_after (take m rows)) text ∙ append_assoc k.text (10 ∷ rest_of row) (text_after (take m rows));
          }

  -- a paragraph that begins with definitions begins in the first of lines
  abbrev pub NotText : Known → (number : ℕ) → List Line → Type 0
  NotText k n [] = Unit {0}
  NotText k n (line ∷ ls) = is_behind_text k.before (row_of on k n line) ≡ false

  used-text : (rows : List Row) → on.definition ≡ true → 1 ≤ defined_in on rows → rest_behind (text_in (take (defined_in on rows) rows)) ≡ []
  used-text rows defines some =
      let d = lines_defined (text_in (paragraph_of rows)) in
      let same : defined_in on rows ≡ d = ap (λ b. cond b d 0) defines in
      let size = few-lines (paragraph_of rows) in
      let few : d ≤ length (paragraph_of rows) = omega (arith, size) in
      ap (λ n. rest_behind (text_in (take n rows))) same
      ∙ ap (λ l. rest_behind (text_in l)) (sym (take_of_take d (prefix_len is_open rows) rows few))
      ∙ lines-used (paragraph_of rows) (omega (arith, some, same))

  defines-some : (rows : List Row) → 1 ≤ defined_in on rows → on.definition ≡ true
  defines-some rows h = by on.definition refl h
    where
      by : (b : Bool) → on.definition ≡ b → 1 ≤ cond b (lines_defined (text_in (paragraph_of rows))) 0 → on.definition ≡ true
      by true e h = e
      by false e h = absurd (omega (arith, h))

  -- behind the definitions with which it begins
  pub used-behind : (k : Known) (n : ℕ) (ls : List Line) → NotText k n ls → AllStay (drop 1 (rows_from on k n ls)) → 1 ≤ defined_in on (rows_from on k n ls)
      → let rows = rows_from on k n ls in Used (state_on on (defined_in on rows) k n ls).known (drop (defined_in on rows) rows)
  used-behind k n [] start stay some = absurd (let few = defined-paragraph on [] in omega (arith, some, few))
  used-behind k n (line ∷ ls) start stay some = by (defined_in on rows) refl
    where
      row : Row
      row = row_of on k n line

      next : Known
      next = known_after on k row

      more : List Row
      more = rows_from on next (suc n) ls

      rows : List Row
      rows = row ∷ more

      is_text : is_paragraph row.leaf ≡ true
      is_text = defined-text on row more some

      by : (d : ℕ) → defined_in on rows ≡ d → Used (state_on on d k n (line ∷ ls)).known (drop d rows)
      by zero e = absurd (omega (arith, some, e))
      by (suc d) e =
          let s = state_on on d next (suc n) ls in
          let defines = defines-some rows some in
          let within = defined-paragraph on rows in
          let size : prefix_len is_open rows ≡ 1 + prefix_len is_open more = ap (λ b. cond b (1 + prefix_len is_open more) 0) is_text in
          let few : d ≤ prefix_len is_open more = omega (arith, e, within, size) in
          let g = grown d next (suc n) ls (leaf-behind on (open-not-blank on) k n line ∙ is_text) stay few in
          let first : next.text ≡ rest_of row = (λ i. cond (is_text i) (cond (start i) (k.text ++ 10 ∷ rest_of row) (rest_of row)) []) in
          let text : s.known.text ≡ text_in (take (suc d) rows) = g.text ∙ ap (λ t. t ++ text_after (take d more)) first in
          let whole : text_in (take (suc d) rows) ++ text_after (paragraph_of (drop d more)) ≡ text_in (paragraph_of rows) =
          append_assoc (rest_of row) (text_after (take d more)) (text_after (paragraph_of (drop d more)))
          ∙ ap (λ l. rest_of row ++ l) (sym (behind-cut d more few))
          ∙ sym (ap text_in (paragraph-more row more is_text)) in
          let full = not-blank-some (rest_of row) (open-not-blank on k n line is_text) in
          let some-there : has_none (text_in (take (suc d) rows)) ≡ false = some_more (rest_of row) (text_after (take d more)) full in
          let long = lines-some (text_in (take (suc d) rows)) (some-long (text_in (take (suc d) rows)) some-there) in
          let count = tens-in row (take d more) in
          let taken = length-take d more in
          let there = prefix_len-le-length is_open more in
          let lines : text_lines (text_in (take (suc d) rows)) ≡ suc d = omega (arith, long, count, taken, few, there) in
          let many : defined_in on rows ≡ lines_defined (text_in (paragraph_of rows)) = ap (λ b. cond b (lines_defined (text_in (paragraph_of rows))) 0) defines in
          let here : lines_defined (text_in (take (suc d) rows) ++ text_after (paragraph_of (drop d more))) ≡ suc d = ap lines_defined whole ∙ sym many ∙ e in
          record {
            defines = defines;
            is_open = g.is_open;
            used = ap is_used_up (text ∙ ap (λ m. text_in (take m rows)) (sym e)) ∙ ap (λ (l : List ℕ). has_none l) (used-text rows defines some);
            text = ap (λ (l : List ℕ). has_none l) text ∙ some-there;
            few = subst (λ t. lines_defined (t ++ text_after (paragraph_of (drop d more))) ≤ text_lines t) (sym text) (omega (arith, lines, here));
            none = ap (λ m. defined_in on (drop m rows)) (sym e) ∙ nothing-behind on rows some;
          }

  -- ---- where definitions begin
  -- behind so many lines
  pub record Found (m : ℕ) (k : Known) (n : ℕ) (ls : List Line) : Type 0 where
    pub some : 1 ≤ defined_in on (rows_at on (state_on on m k n ls))
    pub begins : let s = state_on on m k n ls in NotText s.known s.number s.lines

  not-text : (k : Known) (n : ℕ) (ls : List Line) → is_paragraph k.before.leaf ≡ false → NotText k n ls
  not-text k n [] e = tt
  not-text k n (line ∷ ls) e = let r = row_of on k n line in ap (λ b. r.stays && b) e ∙ and-false r.stays

  -- in the first of lines, or behind it
  found-by : (p : Bool) (k : Known) (n : ℕ) (line : Line) (ls : List Line) → let row = row_of on k n line in let next = known_after on k row in let rows = rows_from on next (suc n) ls in
      ((not p && nat_le 1 (defined_in on (row ∷ rows))) ≡ true → NotText k n (line ∷ ls))
      → (before_defined on (is_paragraph row.leaf) rows < length rows → Found (before_defined on (is_paragraph row.leaf) rows) next (suc n) ls)
      → before_defined on p (row ∷ rows) < suc (length rows) → Found (before_defined on p (row ∷ rows)) k n (line ∷ ls)
  found-by p k n line ls start later less = by (not p && nat_le 1 (defined_in on (row ∷ rows))) refl less
    where
      row : Row
      row = row_of on k n line

      next : Known
      next = known_after on k row

      rows : List Row
      rows = rows_from on next (suc n) ls

      by : (b : Bool) → (not p && nat_le 1 (defined_in on (row ∷ rows))) ≡ b → cond b 0 (suc (before_defined on (is_paragraph row.leaf) rows)) < suc (length rows) → Found (cond b 0 (suc (before_defined on (is_paragraph row.leaf) rows))) k n (line ∷ ls)
      by true f less =
          let some = leb-true 1 (defined_in on (row ∷ rows)) (and-right (not p) (nat_le 1 (defined_in on (row ∷ rows))) f) in
          record { some = some; begins = start f }
      by false f less =
          let more = later (omega (arith, less)) in
          record { some = more.some; begins = more.begins }

  pub found : (p : Bool) (k : Known) (n : ℕ) (ls : List Line) → is_paragraph k.before.leaf ≡ p → before_defined on p (rows_from on k n ls) < length (rows_from on k n ls) → Found (before_defined on p (rows_from on k n ls)) k n ls
  found p k n [] e less = absurd (omega (arith, less))
  found p k n (line ∷ ls) e less =
      let row = row_of on k n line in
      let next = known_after on k row in
      let some = nat_le 1 (defined_in on (row ∷ rows_from on next (suc n) ls)) in
      found-by p k n line ls (λ f. not-text k n (line ∷ ls) (e ∙ not-true p (and-left (not p) some f))) (found (is_paragraph row.leaf) next (suc n) ls (leaf-behind on (open-not-blank on) k n line)) less

  -- from the first of lines on: where no leaf block is open, and where definitions were directly before
  found-first : (k : Known) (n : ℕ) (line : Line) (ls : List Line) → (1 ≤ defined_in on (rows_from on k n (line ∷ ls)) → NotText k n (line ∷ ls)) → before_defined on false (rows_from on k n (line ∷ ls)) < length (rows_from on k n (line ∷ ls))
      → Found (before_defined on false (rows_from on k n (line ∷ ls))) k n (line ∷ ls)
  found-first k n line ls start less =
      let row = row_of on k n line in
      let next = known_after on k row in
      found-by false k n line ls (λ f. start (leb-true 1 (defined_in on (rows_from on k n (line ∷ ls))) f)) (found (is_paragraph row.leaf) next (suc n) ls (leaf-behind on (open-not-blank on) k n line)) less

  pub found-closed : (k : Known) (n : ℕ) (line : Line) (ls : List Line) → StartsClosed on k n (line ∷ ls) → before_defined on false (rows_from on k n (line ∷ ls)) < length (rows_from on k n (line ∷ ls))
      → Found (before_defined on false (rows_from on k n (line ∷ ls))) k n (line ∷ ls)
  found-closed k n line ls starts less =
      found-first k n line ls (λ some. no-text on k n line starts (not-left (row_of on k n line) (left-is-blank on (open-not-blank on) k n line) (defined-text on (row_of on k n line) (rows_from on (known_after on k (row_of on k n line)) (suc n) ls) some))) less

  pub found-used : (k : Known) (n : ℕ) (line : Line) (ls : List Line) → Used k (rows_from on k n (line ∷ ls)) → before_defined on false (rows_from on k n (line ∷ ls)) < length (rows_from on k n (line ∷ ls))
      → Found (before_defined on false (rows_from on k n (line ∷ ls))) k n (line ∷ ls)
  found-used k n line ls used less = found-first k n line ls (λ some. let none = used.none in absurd (omega (arith, some, none))) less
