-- Lines of a stretch that goes on over a rest: their leaf blocks, and that none is an underline.
use Rattle.mddocument_parts.proofs.Prelude.{AllByRecursion, Bool, Constructs, Line, List, Mark, Seat, [], ap, append_assoc, arith, begins_near, blank_line, bytes_of, cond, false, flat_map-append, is_at_rest, kind_of_line, last_end, leaf_block_marks, leaf_blocks, leaf_blocks_marks, length, line_kind, line_text, lines_in, map, not, refl, subst, sym, take, text_of, true, ℕ, ◌&&◌, ◌++◌, ◌∙◌, ◌∷◌, ◌≡◌, ◌≤◌}
use Rattle.std.proofs.Common.{length-append, nat_le, suc, ◌<◌, ◌||◌}
use Rattle.std.proofs.Math.Bool.{and-false}
use Rattle.std.proofs.Math.Seq.{take-append_seam}
use Rattle.std.proofs.lemmas.Bool.{leb-false}
use Rattle.std.proofs.lemmas.List.{length-take-le}
use Rattle.std.specs.Prelude.{is_some}
use Rattle.markdown_base.proofs.Common.{and-right}
use Rattle.markdown_base.proofs.Facts.Bools.{and-left}
use Rattle.markdown_tokenizer.proofs.Positions.Order.{every-back, every-front}
use Rattle.mdblock_leaf_blocks.proofs.Lines.WholeLines.{IsWhole}
use Rattle.mdblock_leaf_blocks.specs.BlocksRead.{block_seats}
use Rattle.mdblock_leaf_blocks.specs.LineKinds.{is_blank_line, underline_rank}
use Rattle.mdblock_containers.proofs.PartGoes.{lines_end_behind, lines_end_front}
use Rattle.mdblock_containers.proofs.SeatFacts.{LineIs, LinesEnd}
use Rattle.mdblock_containers.specs.Rows as without
use Rattle.mdblock_containers.specs.Rows.{Before, Leaf, Row, closed, has_none, holds_ending, is_paragraph, leaf_after, open_paragraph, rest_of}
use Rattle.mdblock_containers.specs.Skeleton.{further, last_of}
use Rattle.mdblock_definitions.proofs.DefinedText.{lines-some, tens-both, tens-rest}
use Rattle.mdblock_definitions.proofs.LeftLines.{EndsFull}
use Rattle.mdblock_definitions.proofs.PlainLetters.{open-not-blank}
use Rattle.mdblock_definitions.proofs.SectionLemmas.{tens}
use Rattle.mdblock_definitions.proofs.SectionTurns.{not-blank-some}
use Rattle.mdblock_definitions.specs.Rows.{Known, is_behind_text, is_used_up, known_after, row_of, rows_from, underlines_nothing}
use Rattle.mdblock_definitions.specs.Sections.{before_defined, defined_in, is_in_table, lines_defined, lines_of, paragraph_of, text_in}
use Rattle.mdblock_paragraphs.proofs.SaidRows.{full-line, full-more, none-here, paragraph-more, some-long, text_after}
use Rattle.mdblock_paragraphs.proofs.ShownLines.{text-twice}
use Rattle.mddocument_parts.proofs.DocumentLabels.{leaf-behind, own-row}
use Rattle.mddocument_parts.proofs.Rests.{rests-cut-blocks}
use Rattle.mddocument_parts.proofs.WithoutContainers.Stretch.{shut-behind, cut_last, IsStretch, front-dropped, front-taken, held-both, held_lines, last-both, stretch}
use Rattle.mddocument_parts.proofs.WithoutContainers.CutOff.{lines-held, lines-whole}
use Rattle.mddocument_parts.proofs.WithoutContainers.Leaves.{HasText, is_left, kept, last_line, leaf_behind, leaf_next, not-left, one-kept}
use Rattle.mddocument_parts.proofs.WithoutContainers.PlainParts.{IsBare, further-plain, known-plain, plain_before, plain_row, plain_rows, row-plain, take-plain}
use Rattle.mddocument_parts.proofs.WithoutContainers.SameTexts.{Agree}
use Rattle.mddocument_parts.specs.DocumentRests.{is_closed, known_behind}
use Rattle.mddocument_parts.specs.JoinedStretches.{AllStay, marks_between, may_stay}

-- ==== Leaf blocks of a stretch that goes on over a rest: those of the lines before it, with their line ending and blank lines behind them, and those of the lines from it on.
module _ (on : Constructs) where
  -- lines that end where no leaf block may go on, with blank lines behind them, and a line that is neither blank nor indented code
  pub record EndsBefore (xs bs : List Line) (line : Line) : Type 0 where
    pub some : 1 ≤ length xs
    pub kept_is : kept on closed (xs ++ bs) ≡ length xs
    pub not_held : holds_ending (leaf_behind on closed xs) ≡ false
    pub shut : is_closed (leaf_behind on closed (xs ++ bs)) ≡ true
    pub near : begins_near (kind_of_line on line) ≡ true

  module _ (bytes : List ℕ) where
    abbrev pub marks_of_lines : List Line → List Mark
    marks_of_lines lines = leaf_blocks_marks bytes (leaf_blocks on lines)

    -- the leaf blocks of virtual bytes
    abbrev pub marks_in : List Seat → List Mark
    marks_in seats = marks_of_lines (lines_in seats)

    abbrev pub Stretched : (xs bs : List Line) → Type 0
    Stretched xs bs = IsStretch on bytes (xs ++ bs) (length xs) (holds_ending (leaf_behind on closed (take (length xs) (xs ++ bs))))

    stretched : (xs bs : List Line) → kept on closed (xs ++ bs) ≡ length xs → AllByRecursion IsWhole (xs ++ bs) → Stretched xs bs
    stretched xs bs e whole = subst (λ k. IsStretch on bytes (xs ++ bs) k (holds_ending (leaf_behind on closed (take k (xs ++ bs))))) e (stretch on bytes (length (xs ++ bs)) (xs ++ bs) (omega arith) whole)

    module _ (xs bs : List Line) (line : Line) (h : EndsBefore xs bs line) (whole : AllByRecursion IsWhole (xs ++ bs)) where
      taken : take (length xs) (xs ++ bs) ≡ xs
      taken = front-taken (length xs) xs bs refl

      held : holds_ending (leaf_behind on closed (take (length xs) (xs ++ bs))) ≡ false
      held = ap (λ ls. holds_ending (leaf_behind on closed ls)) taken ∙ h.not_held

      text-there : HasText (last_line xs)
      text-there = subst (λ ls. HasText (last_line ls)) taken ((stretched xs bs h.kept_is whole).text_is h.some held)

      first-marks : marks_of_lines (xs ++ bs) ≡ marks_of_lines (held_lines false xs) ++ marks_between bytes xs bs
      first-marks =
          let s = stretched xs bs h.kept_is whole in
          let blanks = leaf_blocks_marks bytes (map blank_line bs) in
          let front : marks_of_lines xs ≡ marks_of_lines (held_lines false xs) ++ last_end bytes xs =
          sym (ap marks_of_lines taken) ∙ s.marks h.some
          ∙ (λ i. marks_of_lines (held_lines (held i) (taken i)) ++ cond (held i) [] (last_end bytes (taken i))) in
          ap (leaf_blocks_marks bytes) (s.blocks ∙ (λ i. leaf_blocks on (taken i) ++ map blank_line (front-dropped (length xs) xs bs refl i)))
          ∙ flat_map-append (leaf_block_marks bytes) (leaf_blocks on xs) (map blank_line bs)
          ∙ ap (λ l. l ++ blanks) front
          ∙ append_assoc (marks_of_lines (held_lines false xs)) (last_end bytes xs) blanks

      -- by the lines behind, of which the first has such a text
      split-lines : (l : Line) (ys : List Line) → text_of l ≡ text_of line → marks_of_lines ((xs ++ bs) ++ (l ∷ ys)) ≡ marks_of_lines (held_lines false xs) ++ (marks_between bytes xs bs ++ marks_of_lines (l ∷ ys))
      split-lines l ys same =
          let near : begins_near (kind_of_line on l) ≡ true = ap (λ t. begins_near (line_kind on t)) same ∙ h.near in
          let rest : is_at_rest on (xs ++ bs) l ≡ true = (λ i. near i && not (shut-behind on (length (xs ++ bs)) (xs ++ bs) (omega arith) h.shut i)) in
          ap (leaf_blocks_marks bytes) (rests-cut-blocks on (xs ++ bs) l ys rest)
          ∙ flat_map-append (leaf_block_marks bytes) (leaf_blocks on (xs ++ bs)) (leaf_blocks on (l ∷ ys))
          ∙ ap (λ m. m ++ marks_of_lines (l ∷ ys)) first-marks
          ∙ append_assoc (marks_of_lines (held_lines false xs)) (marks_between bytes xs bs) (marks_of_lines (l ∷ ys))

      split-held : (is_held : Bool) (ys : List Line) → marks_of_lines ((xs ++ bs) ++ held_lines is_held (line ∷ ys)) ≡ marks_of_lines (held_lines false xs) ++ (marks_between bytes xs bs ++ marks_of_lines (held_lines is_held (line ∷ ys)))
      split-held true ys = split-lines line ys refl
      split-held false [] = split-lines (line_text line) [] (ap bytes_of (text-twice line))
      split-held false (y ∷ ys) = split-lines line (cut_last (y ∷ ys)) refl

    -- ---- as virtual bytes
    pub split-blocks : (xs bs : List Line) (line : Line) (ys : List Line) (is_held : Bool) → EndsBefore xs bs line → AllByRecursion LineIs ((xs ++ bs) ++ (line ∷ ys)) → LinesEnd ((xs ++ bs) ++ (line ∷ ys)) → (is_held ≡ false → HasText (last_line (line ∷ ys)))
        → marks_in (block_seats is_held ((xs ++ bs) ++ (line ∷ ys))) ≡ marks_in (block_seats false xs) ++ (marks_between bytes xs bs ++ marks_in (block_seats is_held (line ∷ ys)))
    split-blocks xs bs line ys is_held h are ends text =
        let before = xs ++ bs in
        let behind = line ∷ ys in
        let first_are = every-front LineIs before behind are in
        let first_ends = lines_end_front 0 bytes on before behind ends in
        let whole = lines-whole before first_are in
        let last : last_line (before ++ behind) ≡ last_line behind = last-both before behind (omega arith) in
        let all : lines_in (block_seats is_held (before ++ behind)) ≡ before ++ held_lines is_held behind =
        lines-held is_held (before ++ behind) are ends (λ shut _. subst HasText (sym last) (text shut)) ∙ held-both is_held before behind (omega arith) in
        let first : lines_in (block_seats false xs) ≡ held_lines false xs = lines-held false xs (every-front LineIs xs bs first_are) (lines_end_front 0 bytes on xs bs first_ends) (λ _ _. text-there xs bs line h whole) in
        let second : lines_in (block_seats is_held behind) ≡ held_lines is_held behind = lines-held is_held behind (every-back LineIs before behind are) (lines_end_behind 0 bytes on before behind ends) (λ shut _. text shut) in
        ap marks_of_lines all
        ∙ split-held xs bs line h whole is_held ys
        ∙ (λ i. marks_of_lines (sym first i) ++ (marks_between bytes xs bs ++ marks_of_lines (sym second i)))

-- ==== Lines of a stretch without containers, as rows and as lines that leaf blocks are read from: the leaf block that may go on behind them is the same.
module _ (on : Constructs) where
  -- no line is text because the text before it is of definitions alone
  abbrev pub NoneUnderlines : Known → (number : ℕ) → List Line → Type 0
  NoneUnderlines k n [] = Unit {0}
  NoneUnderlines k n (line ∷ ls) = (underlines_nothing on k (without.row_of on k.before n line) ≡ false) × NoneUnderlines (known_after on k (row_of on k n line)) (suc n) ls

  -- no row is in a table
  abbrev pub NoTable : List Row → Type 0
  NoTable rows = AllByRecursion (λ (row : Row). is_in_table row ≡ false) rows

  -- ---- rows behind a line in a stretch without containers
  pub record ArePlain (k : Known) (n : ℕ) (ls : List Line) (leaf : Leaf) : Type 0 where
    pub rows_are : rows_from on k n ls ≡ plain_rows on leaf n ls
    pub known : (known_behind on k n ls).before ≡ plain_before on (leaf_behind on leaf ls)

  pub are-plain : (k : Known) (n : ℕ) (ls : List Line) (leaf : Leaf) → k.before ≡ plain_before on leaf → AllByRecursion IsBare (rows_from on k n ls) → NoTable (rows_from on k n ls) → NoneUnderlines k n ls → ArePlain k n ls leaf
  are-plain k n [] leaf e bare untabled none = record { rows_are = refl; known = e }
  are-plain k n (line ∷ ls) leaf e bare untabled none =
      let row = row_of on k n line in
      let plain = without.row_of on k.before n line in
      let begun : has_none (without.row_of on (plain_before on leaf) n line).begun ≡ true = ap (λ b. has_none (without.row_of on b n line).begun) (sym e) ∙ ap has_none bare.0.1 in
      let first : row ≡ plain_row on leaf n line =
      own-row on (open-not-blank on) k n line untabled.0
      ∙ ap (λ u. record plain { leaf = cond u open_paragraph plain.leaf }) none.0 ∙ ap (λ b. without.row_of on b n line) e ∙ row-plain on leaf n line begun in
      let next : (known_after on k row).before ≡ plain_before on (leaf_next on leaf line) = (λ i. without.known_after on (e i) (first i)) ∙ known-plain on leaf n line in
      let rest = are-plain (known_after on k row) (suc n) ls (leaf_next on leaf line) next bare.1 untabled.1 none.1 in
      record { rows_are = (λ i. first i ∷ rest.rows_are i); known = rest.known }

  -- ---- lines with the same texts
  kept-agrees : (leaf : Leaf) (xs ys : List Line) → length xs ≡ length ys → Agree xs ys → kept on leaf xs ≡ kept on leaf ys
  kept-agrees leaf [] [] size h = refl
  kept-agrees leaf [] (y ∷ ys) size h = absurd (omega (arith, size))
  kept-agrees leaf (x ∷ xs) [] size h = absurd h
  kept-agrees leaf (x ∷ xs) (y ∷ ys) size h =
      let left : is_left on leaf x ≡ is_left on leaf y = ap (λ t. is_blank_line t && not (holds_ending leaf)) h.0 in
      let next : leaf_next on leaf x ≡ leaf_next on leaf y = (λ i. cond (left i) closed (leaf_after on leaf (h.0 i))) in
      let rest : kept on (leaf_next on leaf x) xs ≡ kept on (leaf_next on leaf y) ys = kept-agrees (leaf_next on leaf x) xs ys (omega (arith, size)) h.1 ∙ ap (λ l. kept on l ys) next in
      (λ i. cond (left i) (cond (nat_le 1 (rest i)) (suc (rest i)) 0) (suc (rest i)))

  behind-agrees : (leaf : Leaf) (xs ys : List Line) → length xs ≡ length ys → Agree xs ys → leaf_behind on leaf xs ≡ leaf_behind on leaf ys
  behind-agrees leaf [] [] size h = refl
  behind-agrees leaf [] (y ∷ ys) size h = absurd (omega (arith, size))
  behind-agrees leaf (x ∷ xs) [] size h = absurd h
  behind-agrees leaf (x ∷ xs) (y ∷ ys) size h =
      let left : is_left on leaf x ≡ is_left on leaf y = ap (λ t. is_blank_line t && not (holds_ending leaf)) h.0 in
      let next : leaf_next on leaf x ≡ leaf_next on leaf y = (λ i. cond (left i) closed (leaf_after on leaf (h.0 i))) in
      behind-agrees (leaf_next on leaf x) xs ys (omega (arith, size)) h.1 ∙ ap (λ l. leaf_behind on l ys) next

  agree-front : (xs zs ys : List Line) → Agree (xs ++ zs) ys → Agree xs (take (length xs) ys)
  agree-front [] zs ys h = tt
  agree-front (x ∷ xs) zs [] h = absurd h
  agree-front (x ∷ xs) zs (y ∷ ys) h = (h.0, agree-front xs zs ys h.1)

  -- ---- the leaf behind the last of them
  last-plain : (r : Row) (n : ℕ) (ls : List Line) → (last_of r (plain_rows on r.leaf n ls)).leaf ≡ leaf_behind on r.leaf ls
  last-plain r n [] = refl
  last-plain r n (line ∷ ls) = last-plain (plain_row on r.leaf n line) (suc n) ls

  front-rows : {A : Type 0} (xs ys zs : List A) → xs ++ ys ≡ zs → take (length xs) zs ≡ xs
  front-rows xs ys zs e = ap (take (length xs)) (sym e) ∙ take-append_seam xs ys

  -- A stretch that ends before a line: its first row and the rows behind it, and the lines that leaf blocks are read from
  pub ends-before : (k : Known) (n : ℕ) (q : Row) (ls : List Line) (more bs : List Row) (x : Line) (xs ys : List Line) (line : Line)
      → ArePlain k n ls q.leaf → rows_from on k n ls ≡ more ++ bs → further (more ++ bs) ≡ length more → holds_ending (last_of q more).leaf ≡ false → is_closed (known_behind on k n ls).before.leaf ≡ true
      → is_blank_line (text_of x) ≡ false → leaf_next on closed x ≡ q.leaf → length xs ≡ length more → length (xs ++ ys) ≡ length ls → Agree (xs ++ ys) ls → begins_near (kind_of_line on line) ≡ true → EndsBefore on (x ∷ xs) ys line
  ends-before k n q ls more bs x xs ys line plain rows reach held shut full next long size agree near =
      let are : more ++ bs ≡ plain_rows on q.leaf n ls = sym rows ∙ plain.rows_are in
      let many : kept on q.leaf ls ≡ length more = sym (further-plain on q.leaf n ls) ∙ ap further (sym are) ∙ reach in
      let left = not-left on closed x full in
      let inside : kept on (leaf_next on closed x) (xs ++ ys) ≡ length xs = ap (λ l. kept on l (xs ++ ys)) next ∙ kept-agrees q.leaf (xs ++ ys) ls size agree ∙ many ∙ sym long in
      let front : plain_rows on q.leaf n (take (length xs) ls) ≡ more =
      sym (take-plain on (length xs) q.leaf n ls) ∙ ap (λ m. take m (plain_rows on q.leaf n ls)) long ∙ front-rows more bs (plain_rows on q.leaf n ls) are in
      let last : (last_of q more).leaf ≡ leaf_behind on q.leaf (take (length xs) ls) = ap (λ rs. (last_of q rs).leaf) (sym front) ∙ last-plain q n (take (length xs) ls) in
      record {
        some = omega arith;
        kept_is = one-kept on closed x (xs ++ ys) left ∙ ap suc inside;
        not_held = ap holds_ending (ap (λ l. leaf_behind on l xs) next ∙ behind-agrees q.leaf xs (take (length xs) ls) (sym (length-take-le (length xs) ls (omega (arith, size, length-append xs ys)))) (agree-front xs ys ls agree) ∙ sym last) ∙ held;
        shut = ap is_closed (ap (λ l. leaf_behind on l (xs ++ ys)) next ∙ behind-agrees q.leaf (xs ++ ys) ls size agree ∙ sym (ap (λ (b : Before). b.leaf) plain.known)) ∙ shut;
        near = near;
      }

-- ==== Lines of sections in which no definitions begin: none of them is text because the text before it is of definitions alone.
more-text : (text : List ℕ) (r : Row) (ps : List Row) → text ++ text_after (r ∷ ps) ≡ (text ++ 10 ∷ rest_of r) ++ text_after ps
more-text text r ps = sym (append_assoc text (10 ∷ rest_of r) (text_after ps))

some-full : (text : List ℕ) → 0 < lines_of text → has_none text ≡ false
some-full [] h = absurd (omega (arith, h))
some-full (x ∷ text) h = refl

module _ (on : Constructs) (defines : on.definition ≡ true) where
  -- where a paragraph is open, the definitions at its front have fewer lines than it has so far
  pub record Inside (k : Known) (rows : List Row) : Type 0 where
    pub few : lines_defined (k.text ++ text_after (paragraph_of rows)) < lines_of k.text
    pub full : EndsFull k.text

  -- so no line is an underline of definitions alone: they would have all lines before it
  not-here : (k : Known) (n : ℕ) (line : Line) (rows : List Row) → is_in_table (row_of on k n line) ≡ false → (is_paragraph k.before.leaf ≡ true → Inside k (row_of on k n line ∷ rows)) → underlines_nothing on k (without.row_of on k.before n line) ≡ false
  not-here k n line rows untabled inside = by (underlines_nothing on k plain) refl
    where
      plain : Row
      plain = without.row_of on k.before n line

      by : (u : Bool) → underlines_nothing on k plain ≡ u → u ≡ false
      by false e = refl
      by true e =
          let underline = is_some (underline_rank on (rest_of plain)) in
          let used = is_used_up k.text in
          let all = and-right on.definition (is_behind_text k.before plain && (underline && used)) e in
          let behind = and-left (is_behind_text k.before plain) (underline && used) all in
          let last = and-right (is_behind_text k.before plain) (underline && used) all in
          let row = row_of on k n line in
          let is-open = and-right plain.stays (is_paragraph k.before.leaf) behind in
          let there = inside is-open in
          let text : is_paragraph row.leaf ≡ true = ap (λ (r : Row). is_paragraph r.leaf) (own-row on (open-not-blank on) k n line untabled) ∙ ap (λ u. is_paragraph (cond u open_paragraph plain.leaf)) e in
          let more = paragraph-more row rows text in
          let many = none-here on k.text (rest_of plain) (text_after (paragraph_of rows)) there.full (and-right underline used last) (and-left underline used last) in
          let few = there.few in
          let same : lines_defined (k.text ++ text_after (paragraph_of (row ∷ rows))) ≡ lines_of k.text = ap (λ ps. lines_defined (k.text ++ text_after ps)) more ∙ many in
          absurd (omega (arith, few, same))

  -- the row behind which a paragraph is open
  module _ (k : Known) (n : ℕ) (line : Line) (rows : List Row) (is-open : is_paragraph (row_of on k n line).leaf ≡ true) where
    abbrev row : Row
    row = row_of on k n line

    abbrev next : Known
    next = known_after on k row

    full : is_blank_line (rest_of row) ≡ false
    full = open-not-blank on k n line is-open

    line-full : EndsFull (rest_of row)
    line-full = full-line (rest_of row) (not-blank-some (rest_of row) full) (tens-rest row)

    abbrev ps : List Row
    ps = paragraph_of rows

    -- it goes on, if definitions have no more lines than it had
    pub goes-on : is_behind_text k.before row ≡ true → lines_defined (k.text ++ text_after (paragraph_of (row ∷ rows))) ≤ lines_of k.text → has_none k.text ≡ false → Inside next rows
    goes-on e few full-text =
        let text : next.text ≡ k.text ++ 10 ∷ rest_of row = (λ i. cond (is-open i) (cond (e i) (k.text ++ 10 ∷ rest_of row) (rest_of row)) []) in
        let same : lines_defined (next.text ++ text_after ps) ≡ lines_defined (k.text ++ text_after (paragraph_of (row ∷ rows))) =
        ap (λ t. lines_defined (t ++ text_after ps)) text ∙ ap lines_defined (sym (more-text k.text row ps)) ∙ ap (λ qs. lines_defined (k.text ++ text_after qs)) (sym (paragraph-more row rows is-open)) in
        let here = lines-some k.text (some-long k.text full-text) in
        let size = length-append k.text (10 ∷ rest_of row) in
        let both = tens-both k.text (10 ∷ rest_of row) in
        let long : lines_of next.text ≡ suc (tens (k.text ++ 10 ∷ rest_of row)) = ap lines_of text ∙ lines-some (k.text ++ 10 ∷ rest_of row) (omega (arith, size)) in
        record { few = omega (arith, few, same, here, both, long); full = subst EndsFull (sym text) (full-more k.text (10 ∷ rest_of row) (full-more (10 ∷ []) (rest_of row) line-full)) }

    -- it begins
    pub begins : is_behind_text k.before row ≡ false → nat_le 1 (defined_in on (row ∷ rows)) ≡ false → Inside next rows
    begins e nothing =
        let text : next.text ≡ rest_of row = (λ i. cond (is-open i) (cond (e i) (k.text ++ 10 ∷ rest_of row) (rest_of row)) []) in
        let zero-many : defined_in on (row ∷ rows) ≡ lines_defined (rest_of row ++ text_after ps) = ap (λ b. cond b (lines_defined (text_in (paragraph_of (row ∷ rows)))) 0) defines ∙ ap (λ qs. lines_defined (text_in qs)) (paragraph-more row rows is-open) in
        let long = lines-some (rest_of row) (some-long (rest_of row) (not-blank-some (rest_of row) full)) in
        let here = ap lines_of text in
        let same : lines_defined (next.text ++ text_after ps) ≡ lines_defined (rest_of row ++ text_after ps) = ap (λ t. lines_defined (t ++ text_after ps)) text in
        let few = leb-false 1 (defined_in on (row ∷ rows)) nothing in
        record { few = omega (arith, few, same, zero-many, long, here); full = subst EndsFull (sym text) line-full }

    module _ (inside : is_paragraph k.before.leaf ≡ true → Inside k (row ∷ rows)) (none : (not (is_paragraph k.before.leaf) && nat_le 1 (defined_in on (row ∷ rows))) ≡ false) (stay : may_stay row ≡ true) where
      stays : row.stays ≡ true
      stays = sym (ap (λ b. (b && (has_none row.begun && not (row.stays && holds_ending k.before.leaf))) || row.stays) full) ∙ stay

      goes-more : is_paragraph k.before.leaf ≡ true → Inside next rows
      goes-more e =
          let there = inside e in
          let few = there.few in
          goes-on (λ i. stays i && e i) (omega (arith, few)) (some-full k.text (omega (arith, few)))

      inside-next : Inside next rows
      inside-next = by (is_paragraph k.before.leaf) refl
        where
          by : (b : Bool) → is_paragraph k.before.leaf ≡ b → Inside next rows
          by true e = goes-more e
          by false e = begins (ap (λ b. row.stays && b) e ∙ and-false row.stays) (ap (λ b. not b && nat_le 1 (defined_in on (row ∷ rows))) (sym e) ∙ none)

  pub none-underlines : (k : Known) (n : ℕ) (ls : List Line) → AllStay (rows_from on k n ls) → NoTable on (rows_from on k n ls) → (is_paragraph k.before.leaf ≡ true → Inside k (rows_from on k n ls))
      → before_defined on (is_paragraph k.before.leaf) (rows_from on k n ls) ≡ length (rows_from on k n ls) → NoneUnderlines on k n ls
  none-underlines k n [] stay untabled inside whole = tt
  none-underlines k n (line ∷ ls) stay untabled inside whole =
      let row = row_of on k n line in
      let next = known_after on k row in
      let rows = rows_from on next (suc n) ls in
      let same = leaf-behind on (open-not-blank on) k n line in
      let parts = by (not (is_paragraph k.before.leaf) && nat_le 1 (defined_in on (row ∷ rows))) refl whole in (
        not-here k n line rows untabled.0 inside,
        none-underlines next (suc n) ls stay.1 untabled.1 (λ e. inside-next k n line rows (sym same ∙ e) inside parts.0 stay.0) (ap (λ b. before_defined on b rows) same ∙ parts.1),
      )
    where
      row : Row
      row = row_of on k n line

      rows : List Row
      rows = rows_from on (known_after on k row) (suc n) ls

      by : (b : Bool) → (not (is_paragraph k.before.leaf) && nat_le 1 (defined_in on (row ∷ rows))) ≡ b → cond b 0 (suc (before_defined on (is_paragraph row.leaf) rows)) ≡ suc (length rows)
          → ((not (is_paragraph k.before.leaf) && nat_le 1 (defined_in on (row ∷ rows))) ≡ false) × (before_defined on (is_paragraph row.leaf) rows ≡ length rows)
      by true e h = absurd (omega (arith, h))
      by false e h = (e, omega (arith, h))
