-- Whole documents at a rest: their blocks and events are those of their parts.
use Rattle.std.proofs.Common.{Bool, List, Some, [], ap, arith, cond, drop, false, length, map, refl, subst, sym, true, ℕ, ◌++◌, ◌<◌, ◌∙◌, ◌∷◌, ◌≡◌}
use Rattle.std.proofs.lemmas.List.{length-map}
use Rattle.std.specs.List.{AllByRecursion, flat_map}
use Rattle.markdown_base.proofs.Facts.Bools.{and-left}
use Rattle.markdown_base.specs.Virtual.{Seat, virtual}
use Rattle.markdown_base.specs.declared.configuration.Constructs.{Constructs}
use Rattle.markdown_base.specs.declared.configuration.ParseOptions.{ParseOptions}
use Rattle.markdown_base.specs.declared.event.Content.TheVariants as content
use Rattle.markdown_base.specs.declared.event.Event.{Event}
use Rattle.markdown_tokenizer.specs.Text.{IsDocument}
use Rattle.mdconstructs_machines.specs.LineEvents.{line_text, lines_in}
use Rattle.mdblock_leaf_blocks.proofs.Marks.LeafSpans.{text-shorter}
use Rattle.mdblock_leaf_blocks.specs.BlocksRead.{block_seats}
use Rattle.mdblock_leaf_blocks.specs.LeafBlocks.{Line, text_of}
use Rattle.mdblock_leaf_blocks.specs.LeafEvents.{Mark, flow_events}
use Rattle.mdblock_leaf_blocks.specs.LineKinds.{indent}
use Rattle.mdblock_containers.specs.Letters.{ArePlainFrom, letter, lettered_seat}
use Rattle.mdblock_containers.specs.Rows.{Row, rest_of}
use Rattle.mdblock_containers.specs.Skeleton.{is_held}
use Rattle.mdblock_definitions.proofs.Covered.{rows_of}
use Rattle.mdblock_definitions.proofs.PlainLetters.{letters-are-plain}
use Rattle.mdblock_definitions.proofs.SectionTight.{all-sections-tight}
use Rattle.mdblock_definitions.proofs.SectionsReady.{document-goes}
use Rattle.mdblock_definitions.specs.Rows.{rows}
use Rattle.mdblock_definitions.specs.Sections.{Section, lines, sections}
use Rattle.mdblock_definitions.specs.Skeleton.{letters, letters_of_section, sections_marks, text_begin}
use Rattle.mdblock_text_lines.proofs.BlocksAreThose.{blocks-are-those}
use Rattle.mdblock_text_lines.specs.DocumentBlocks.{document_leaf_blocks}
use Rattle.mdblock_table_marks.specs.Cells.{celled, with_cells}
use Rattle.mdinline_link_strings.specs.Strings.{with_strings}
use Rattle.mdinline_machine.specs.InlineChains.{with_inlines, with_strings as with_string_chunks}
use Rattle.mddocument.proofs.InContainers.BlocksFormed.{blocks-well}
use Rattle.mddocument.proofs.InContainers.Skeletons.{skeleton-laws}
use Rattle.mddocument.specs.DocumentEvents.{is_defined_in}
use Rattle.mddocument.specs.Documents.{document}
use Rattle.mddocument_parts.proofs.BlocksAtRest.{blocks-apart, whole, joined-leaves, leaves, lettered_blocks, marks_of_seats, with_letter}
use Rattle.mddocument_parts.proofs.BlocksJoin.{AreWhole, apart, chunk-whole, lone_chunk, whole-both}
use Rattle.mddocument_parts.proofs.BothTexts.{events-both}
use Rattle.mddocument_parts.proofs.CellsOfBoth.{cells-of-both}
use Rattle.mddocument_parts.proofs.DocumentBytes.{document-first-line-tells}
use Rattle.mddocument_parts.proofs.DocumentParts.{behind-document, front-document}
use Rattle.mddocument_parts.proofs.JoinedChunks.{at-rest, first-plain, first-read, goes-behind, marks-apart, seam_chunk, seam_row, seam_rows, sections-join, DocumentPlace}
use Rattle.mddocument_parts.proofs.JoinedDocument.{IsRead}
use Rattle.mddocument_parts.proofs.JoinedMarks.{lines_of, white_columns}
use Rattle.mddocument_parts.proofs.LetteredBoth.{lettered}
use Rattle.mddocument_parts.proofs.TextsOfBoth.{with_chains_read}
use Rattle.mddocument_parts.proofs.SeamEnds.{near-at-seam, stretch-at-seam}
use Rattle.mddocument_parts.proofs.SeamLetters.{IsNotLazy, first-stays, letters-are, others-stay}
use Rattle.mddocument_parts.proofs.SeamText.{between-plain, between-whole, joined-lines, letter-in-front, lines-around, some-text, seam-not-lazy, seam-text}
use Rattle.mddocument_parts.proofs.SeamSeats.{first-some, first_seats, middle_seats, seats-are, seats-split, seats_after, seats_before, second-some, second_seats, whole-is}
use Rattle.mddocument_parts.proofs.Sections.{give}
use Rattle.mddocument_parts.proofs.SkeletonOfBoth.{all-behind, chained-of-both, skeleton-of-both}
use Rattle.mddocument_parts.proofs.NoUnderlines.{EndsBefore}
use Rattle.mddocument_parts.proofs.WithoutContainers.Leaves.{HasText, last_line}
use Rattle.mddocument_parts.specs.BothDocuments.{DocumentBlocksOfBoth, DocumentEventsOfBoth, DocumentSectionsGiveEvents, IsOfBoth, events_by, is_rest}
use Rattle.mddocument_parts.specs.DocumentRests.{document_rows, first_at_document_rest, goes_on_behind}
use Rattle.mddocument_parts.specs.JoinedStretches.{ChunkSeam, SectionSeam, SectionsJoin, at_top, firsts, joined_part, marks_between, section_seam, sections_apart}
use Rattle.mddocument_parts.specs.Moved.{begins_line, line_endings, moved_event}
use Rattle.mddocument_parts.specs.MovedSections.{moved_section}
use Rattle.mddocument_parts.specs.Sections.{document_of}

-- ==== The blocks of a document at a rest where a stretch of lines goes on: they are those of its parts.
-- what stays is in both lists
first-stay : (f : Line → Line) (x : Line) (xs ys : List Line) → f x ∷ xs ≡ x ∷ ys → f x ≡ x
first-stay f x xs ys e = ap first e
  where
    first : List Line → Line
    first [] = x
    first (l ∷ ls) = l

stay-front : (f : Line → Line) (xs ys : List Line) → map f (xs ++ ys) ≡ xs ++ ys → (map f xs ≡ xs) × (map f ys ≡ ys)
stay-front f [] ys h = (refl, h)
stay-front f (x ∷ xs) ys h = let rest = stay-front f xs ys (ap (drop 1) h) in let here = first-stay f x (map f (xs ++ ys)) (xs ++ ys) h in ((λ i. here i ∷ rest.0 i), rest.1)

module _ (options : ParseOptions) (a b : List ℕ) (is : IsDocument (document options (a ++ b))) (rest : is_rest options a b ≡ true) where
  abbrev on : Constructs
  on = options.constructs

  abbrev t : ℕ
  t = options.tab_size

  abbrev bytes : List ℕ
  bytes = a ++ b

  torn : begins_line b a ≡ true
  torn = and-left (begins_line b a) (first_at_document_rest on (lines_in (virtual t a)) (lines_in (virtual t b))) rest

  abbrev pub leaf_blocks_of : List Mark → List Event
  leaf_blocks_of ms = leaves options bytes is ms

  abbrev marks_before : List Mark
  marks_before = sections_marks bytes (sections on (document_rows on t a))

  abbrev marks_behind : List Mark
  marks_behind = sections_marks bytes (map (moved_section (line_endings a) (length a)) (sections on (document_rows on t b)))

  abbrev marks_of_both : List Mark
  marks_of_both = sections_marks bytes (sections on (document_rows on t bytes))

  -- it is enough to see to the marks
  pub from-marks : leaf_blocks_of marks_of_both ≡ leaf_blocks_of (marks_before ++ marks_behind) → IsOfBoth (lettered_blocks options) a b
  from-marks e =
      let g = whole options a b is rest in
      e ∙ ap (λ ms. leaf_blocks_of (marks_before ++ ms)) (all-behind a b torn on t)
      ∙ ap (with_chains_read (Some content.Content) g (flow_events on g.bytes)) (chained-of-both on t a b torn)
      ∙ blocks-apart options a b is rest

  all-whole : AreWhole marks_of_both
  all-whole = record { runs = (document-goes (document options bytes) is).runs; tight = all-sections-tight bytes on t }

  module _ (line : Line) (behind : List Line) (lines_are : lines_in (virtual t b) ≡ line ∷ behind) (goes : goes_on_behind on (lines_in (virtual t a)) (lines_in (virtual t b)) ≡ true) where
    abbrev r : Row
    r = seam_row on t a b rest line behind lines_are goes

    abbrev rs : List Row
    rs = seam_rows on t a b rest line behind lines_are goes

    abbrev Seam : Type 0
    Seam = SectionSeam (DocumentPlace on t a) (at_top r) (document_rows on t a) r rs (sections on (document_rows on t bytes)) (sections on (document_rows on t a)) (map (moved_section (line_endings a) (length a)) (sections on (document_rows on t b)))

    module _ (h : Seam) where
      abbrev q : Row
      q = h.it.begin.first

      abbrev more : List Line
      more = lines_of h.it.begin.more

      abbrev blanks : List Line
      blanks = lines_of (firsts h.it.blanks)

      abbrev end : Line
      end = h.it.end.first.line

      abbrev further : List Line
      further = lines_of h.it.end.more

      abbrev held : Bool
      held = is_held h.it.end

      abbrev n : ℕ
      n = white_columns bytes h.within.is_behind q

      -- the line of which leaf blocks are read first
      pub record IsFirst (x : Line) : Type 0 where
        pub same : h.within.is_behind ≡ false → x ≡ q.line
        pub letter_first : h.within.is_behind ≡ true → (others : List ℕ) × (text_of x ≡ letter ∷ others)

      module _ (ends : (x : Line) → IsFirst x → EndsBefore on (x ∷ more) blanks end) (text : held ≡ false → HasText (last_line (end ∷ further)))
          (lazy : AllByRecursion IsNotLazy (q ∷ ((h.it.begin.more ++ firsts h.it.blanks) ++ (h.it.end.first ∷ h.it.end.more)))) where
        abbrev section : Section
        section = record { part = joined_part h.it.begin h.it.blanks h.it.end; inside = lines h.within.is_behind }

        abbrev above : List Line
        above = lines_of (rows_of h.front)

        abbrev left : List Line
        left = lines_of (rows_of h.back)

        around : lines_in (virtual t bytes) ≡ above ++ (lines_of (q ∷ section.part.more) ++ left)
        around = lines-around on t bytes h.front h.back section h.whole_is

        document_lines : lines_in (virtual t bytes) ≡ above ++ ((((q.line ∷ more) ++ blanks) ++ (end ∷ further)) ++ left)
        document_lines = around ∙ ap (λ l. above ++ (l ++ left)) (joined-lines h.it.begin h.it.blanks h.it.end)

        -- the first line has text behind its white space
        read : IsRead q
        read = first-read on t a b rest line behind lines_are goes h

        columns : q.columns ≡ 0
        columns = (first-plain on t a b rest line behind lines_are goes h).columns

        text_is : rest_of q ≡ text_of q.line
        text_is = ap (λ m. drop m (text_of q.line)) columns

        few-text : indent (rest_of q) < length (line_text q.line)
        few-text =
            let some = some-text (rest_of q) (sym read.blank ∙ h.it.full) in
            let size = ap (λ (l : List ℕ). length l) text_is in
            let same = length-map (line_text q.line) (λ (s : Seat). s.byte) in
            omega (arith, some, size, same)

        few : n < length (line_text q.line)
        few = by h.within.is_behind
          where
            by : (c : Bool) → cond c (indent (rest_of q)) 0 < length (line_text q.line)
            by true = few-text
            by false = let less = few-text in omega (arith, less)

        -- ---- letters
        abbrev at : List ℕ
        at = letters on (virtual t bytes)

        letters_at : at ≡ flat_map (letters_of_section on) (h.front ++ (section ∷ h.back))
        letters_at = ap (flat_map (letters_of_section on)) h.whole_is

        some : 0 < t
        some = let tab = is.tab.0 in omega (arith, tab)

        record Stay : Type 0 where
          first : map (lettered at) more ≡ more
          between : map (lettered at) blanks ≡ blanks
          second : map (lettered at) (end ∷ further) ≡ end ∷ further

        stay : Stay
        stay =
            let apart : lines_of section.part.more ≡ (more ++ blanks) ++ (end ∷ further) = ap (drop 1) (joined-lines h.it.begin h.it.blanks h.it.end) in
            let all : map (lettered at) ((more ++ blanks) ++ (end ∷ further)) ≡ (more ++ blanks) ++ (end ∷ further) =
            (λ i. map (lettered (letters_at i)) (sym apart i)) ∙ others-stay on t some bytes h.front h.back section h.within.is_behind refl around lazy ∙ apart in
            let both = stay-front (lettered at) (more ++ blanks) (end ∷ further) all in
            let front = stay-front (lettered at) more blanks both.0 in
            record { first = front.0; between = front.1; second = both.1 }

        first-is : IsFirst (lettered at (drop n q.line))
        first-is = record {
          same = λ off.
              (λ i. map (lettered_seat (letters_at i)) (drop (cond (off i) (indent (rest_of q)) 0) q.line)) ∙ first-stays on t some bytes h.front h.back section h.within.is_behind refl around lazy off;
          letter_first = λ yes.
              let is = letters_at ∙ letters-are on t some bytes h.front h.back section h.within.is_behind refl around lazy ∙ ap (λ c. (flat_map (letters_of_section on) h.front ++ cond c (text_begin q) []) ++ flat_map (letters_of_section on) h.back) yes in
              subst (λ c. (others : List ℕ) × (text_of (map (lettered_seat at) (drop (cond c (indent (rest_of q)) 0) q.line)) ≡ letter ∷ others)) (sym yes)
              (letter-in-front q (flat_map (letters_of_section on) h.front) (flat_map (letters_of_section on) h.back) at columns is (let few = few-text in let long = text-shorter q.line read.whole in omega (arith, few, long)));
        }

        ends-there : EndsBefore on (lettered at (drop n q.line) ∷ map (lettered at) more) (map (lettered at) blanks) (lettered at end)
        ends-there =
            let first : Line = lettered at (drop n q.line) in
            subst (λ l. EndsBefore on (first ∷ map (lettered at) more) (map (lettered at) blanks) l) (sym (first-stay (lettered at) end (map (lettered at) further) further stay.second))
            (subst (λ bs. EndsBefore on (first ∷ map (lettered at) more) bs end) (sym stay.between)
            (subst (λ ms. EndsBefore on (first ∷ ms) blanks end) (sym stay.first) (ends first first-is)))

        lettered-text : held ≡ false → HasText (last_line (map (lettered at) (end ∷ further)))
        lettered-text k = subst (λ ls. HasText (last_line ls)) (sym stay.second) (text k)

        -- ---- virtual bytes of the chunks
        plain : ArePlainFrom 0 at bytes
        plain = letters-are-plain on t bytes

        abbrev one : List Seat
        one = first_seats on t bytes at plain above left q.line more blanks end further n held document_lines few

        abbrev middle : List Seat
        middle = middle_seats on t bytes at plain above left q.line more blanks end further n held document_lines few

        abbrev two : List Seat
        two = second_seats on t bytes at plain above left q.line more blanks end further n held document_lines few

        abbrev before : List Seat
        before = seats_before on t bytes at plain above left q.line more blanks end further n held document_lines few

        abbrev after : List Seat
        after = seats_after on t bytes at plain above left q.line more blanks end further n held document_lines few

        abbrev between : List Mark
        between = marks_between bytes (q.line ∷ more) blanks

        abbrev c : ChunkSeam bytes marks_of_both marks_before marks_behind
        c = seam_chunk on t a b rest line behind lines_are goes h

        blocks-by-seats : (s : Seat) (ss : List Seat) (u : Seat) (us : List Seat) → one ≡ s ∷ ss → two ≡ u ∷ us → leaf_blocks_of marks_of_both ≡ leaf_blocks_of (marks_before ++ marks_behind)
        blocks-by-seats s ss u us e f =
            let all : List Seat = (s ∷ ss) ++ (middle ++ (u ∷ us)) in
            let chunk : drop n (block_seats held (((q.line ∷ more) ++ blanks) ++ (end ∷ further))) ≡ all =
            seats-are on t bytes at plain above left q.line more blanks end further n held document_lines few ∙ (λ i. e i ++ (middle ++ f i)) in
            let whole : virtual t bytes ≡ before ++ ((s ∷ ss) ++ (middle ++ ((u ∷ us) ++ after))) =
            whole-is on t bytes at plain above left q.line more blanks end further n held document_lines few ∙ (λ i. before ++ (e i ++ (middle ++ (f i ++ after)))) in
            let split =
            (λ i. marks_of_seats options bytes is (with_letter options bytes is (sym e i ++ (middle ++ sym f i))))
            ∙ seats-split on t bytes at plain above left q.line more blanks end further n held document_lines few ends-there lettered-text
            ∙ (λ i. marks_of_seats options bytes is (with_letter options bytes is (e i)) ++ (between ++ marks_of_seats options bytes is (with_letter options bytes is (f i)))) in
            let marks : marks_of_both ≡ c.front ++ (lone_chunk bytes all ++ c.back) = c.whole_is ∙ ap (λ l. c.front ++ (lone_chunk bytes l ++ c.back)) chunk in
            let parts = apart bytes c.front s (ss ++ (middle ++ (u ∷ us))) c.back (subst AreWhole marks all-whole) in
            let first_whole = whole-both c.front (lone_chunk bytes (s ∷ ss) ++ between) parts.0 (whole-both (lone_chunk bytes (s ∷ ss)) between (chunk-whole bytes (s ∷ ss)) (between-whole bytes (q.line ∷ more) blanks)) in
            let second_whole = whole-both (lone_chunk bytes (u ∷ us)) c.back (chunk-whole bytes (u ∷ us)) parts.1 in
            let firsts : marks_before ≡ c.front ++ (lone_chunk bytes (s ∷ ss) ++ between) = c.first_is ∙ (λ i. c.front ++ (lone_chunk bytes (e i) ++ between)) in
            let seconds : marks_behind ≡ lone_chunk bytes (u ∷ us) ++ c.back = c.second_is ∙ (λ i. lone_chunk bytes (f i) ++ c.back) in
            ap leaf_blocks_of marks
            ∙ joined-leaves options bytes is before s ss middle u us after between whole (between-plain bytes (q.line ∷ more) blanks) split c.front c.back first_whole second_whole
            ∙ (λ i. leaf_blocks_of (sym firsts i ++ sym seconds i))

        pub blocks-at-seam : IsOfBoth (lettered_blocks options) a b
        blocks-at-seam = from-marks (by one refl two refl)
          where
            by : (xs : List Seat) → one ≡ xs → (ys : List Seat) → two ≡ ys → leaf_blocks_of marks_of_both ≡ leaf_blocks_of (marks_before ++ marks_behind)
            by [] e ys f =
                let some = first-some on t bytes at plain above left q.line more blanks end further n held document_lines few in
                let none = ap (λ (l : List Seat). length l) e in
                absurd (omega (arith, some, none))
            by (s ∷ ss) e [] f =
                let some = second-some on t bytes at plain above left q.line more blanks end further n held document_lines few text in
                let none = ap (λ (l : List Seat). length l) f in
                absurd (omega (arith, some, none))
            by (s ∷ ss) e (u ∷ us) f = blocks-by-seats s ss u us e f

-- At a rest at which a stretch of lines goes on, the blocks of a document are those of its parts
pub blocks-with-stretch : (options : ParseOptions) (a b : List ℕ) → IsDocument (document options (a ++ b)) → is_rest options a b ≡ true
    → goes_on_behind options.constructs (lines_in (virtual options.tab_size a)) (lines_in (virtual options.tab_size b)) ≡ true → IsOfBoth (lettered_blocks options) a b
blocks-with-stretch options a b is rest goes = by (lines_in (virtual options.tab_size b)) refl
  where
    on : Constructs
    on = options.constructs

    t : ℕ
    t = options.tab_size

    joined : (line : Line) (behind : List Line) (e : lines_in (virtual t b) ≡ line ∷ behind) → let r = seam_row on t a b rest line behind e goes in let rs = seam_rows on t a b rest line behind e goes in
        SectionsJoin (DocumentPlace on t a) (at_top r) (document_rows on t a) r rs (sections on (document_rows on t (a ++ b))) (sections on (document_rows on t a)) (map (moved_section (line_endings a) (length a)) (sections on (document_rows on t b)))
        → IsOfBoth (lettered_blocks options) a b
    joined line behind e (sections_apart k) = from-marks options a b is rest (ap (leaf_blocks_of options a b is rest) (marks-apart on t a b rest line behind e goes k))
    joined line behind e (section_seam h) =
        let one = lines_in (virtual t a) in
        let n = line_endings a in
        let there = at-rest on t a b rest line behind e goes in
        let on_behind = goes-behind on t a b rest line behind e goes in
        let Place = DocumentPlace on t a in
        let rs = seam_rows on t a b rest line behind e goes in
        let whole = sections on (document_rows on t (a ++ b)) in
        let first = sections on (document_rows on t a) in
        let second = map (moved_section n (length a)) (sections on (document_rows on t b)) in
        blocks-at-seam options a b is rest line behind e goes h
        (λ x is. stretch-at-seam on t a b rest goes line behind e rs whole first second h x is.same is.letter_first h.it.end.first.line (near-at-seam on t a b rest goes line behind e rs whole first second h))
        (seam-text on n (length a) one line behind there on_behind Place whole first second (ap (λ l. map (moved_section n (length a)) (sections on (rows on l))) e) h)
        (seam-not-lazy on n (length a) one line behind there on_behind Place whole first second h)

    by : (two : List Line) → lines_in (virtual t b) ≡ two → IsOfBoth (lettered_blocks options) a b
    by [] e = let none = sym goes ∙ ap (goes_on_behind on (lines_in (virtual t a))) e in absurd (cc)
    by (line ∷ behind) e = joined line behind e (sections-join on t a b rest line behind e goes)

-- ==== Whole documents at a rest: their blocks and events are those of their parts.
-- a rest begins a line
pub rest-begins : (options : ParseOptions) (a b : List ℕ) → is_rest options a b ≡ true → begins_line b a ≡ true
rest-begins options a b h =
    let on = options.constructs in
    let t = options.tab_size in
    and-left (begins_line b a) (first_at_document_rest on (lines_in (virtual t a)) (lines_in (virtual t b))) h

-- a line of the second part goes on with a stretch of lines of the first
abbrev GoesOn : ParseOptions → (a b : List ℕ) → Bool → Type 0
GoesOn options a b goes = goes_on_behind options.constructs (lines_in (virtual options.tab_size a)) (lines_in (virtual options.tab_size b)) ≡ goes

-- where none does, the skeletons are those of the parts
blocks-without-stretch : (options : ParseOptions) (a b : List ℕ) → IsDocument (document options (a ++ b)) → is_rest options a b ≡ true → GoesOn options a b false → IsOfBoth (lettered_blocks options) a b
blocks-without-stretch options a b is rest off =
    let g = whole options a b is rest in
    ap (with_chains_read (Some content.Content) g (flow_events options.constructs g.bytes)) (skeleton-of-both options.constructs options.tab_size a b rest off) ∙ blocks-apart options a b is rest

-- the leaf blocks of the whole are those of its parts
leaf-blocks-of-both : (options : ParseOptions) (a b : List ℕ) → IsDocument (document options (a ++ b)) → is_rest options a b ≡ true → IsOfBoth (λ bytes. document_leaf_blocks (document options bytes)) a b
leaf-blocks-of-both options a b is rest =
    let first = sym (blocks-are-those (document options a) (front-document options a b is)) in
    let second = sym (blocks-are-those (document options b) (behind-document options a b is)) in
    blocks-are-those (document options (a ++ b)) is
    ∙ by (goes_on_behind options.constructs (lines_in (virtual options.tab_size a)) (lines_in (virtual options.tab_size b))) refl
    ∙ (λ i. first i ++ map (moved_event (line_endings a) (length a) (length (first i))) (second i))
  where
    by : (c : Bool) → GoesOn options a b c → IsOfBoth (lettered_blocks options) a b
    by true e = blocks-with-stretch options a b is rest e
    by false e = blocks-without-stretch options a b is rest e

-- and so are its blocks, with the texts of cells
pub document-blocks-of-both : DocumentBlocksOfBoth
document-blocks-of-both options a b is rest =
    let first = document_leaf_blocks (document options a) in
    let second = document_leaf_blocks (document options b) in
    ap (with_cells options.constructs) (leaf-blocks-of-both options a b is rest)
    ∙ cells-of-both options.constructs (line_endings a) (length a) first second (blocks-well skeleton-laws (document options a) (front-document options a b is)).balanced

pub document-events-of-both : DocumentEventsOfBoth
document-events-of-both defined options a b is rest = events-both defined options a b is (rest-begins options a b rest) (document-blocks-of-both options a b is rest)

-- no bytes have no events
pub no-events : (defined : List ℕ → Bool) (options : ParseOptions) → events_by options defined [] ≡ []
no-events defined options =
    let g = document options [] in
    ap (λ (blocks : List Event). with_strings options.constructs options.tab_size [] (with_string_chunks g (with_inlines defined g blocks))) (by options.constructs.gfm_table)
  where
    by : (b : Bool) → let leaf_blocks = document_leaf_blocks (document options []) in cond b (celled false leaf_blocks) leaf_blocks ≡ []
    by true = refl
    by false = refl

pub document-sections-give-events : DocumentSectionsGiveEvents
document-sections-give-events options sections is h =
    let defined = is_defined_in (document options (document_of sections)) in
    sym (give (is_rest options) (rest-begins options) (document-first-line-tells options.constructs options.tab_size) (λ bytes. IsDocument (document options bytes)) (λ a b ok. behind-document options a b ok)
    (events_by options defined) (no-events defined options) (document-events-of-both defined options) sections is h)
