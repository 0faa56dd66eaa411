-- Lines of a document behind each of which a paragraph is open are read as the events of one paragraph.
use Rattle.std.proofs.Common.{◌≡◌, ◌∙◌, ◌≤◌, ℕ, Bool, true, false, List, [], ◌∷◌, ap, append-nil, arith, inl, inr, length, length-append, map, not, subst, sym}
use Rattle.std.specs.Prelude.{◌&&◌}
use Rattle.std.specs.List.{AllByRecursion, list_all}
use Rattle.std.proofs.lemmas.Bool.{false≢true}
use Rattle.std.proofs.lemmas.List.{length-map, map-append}
use Rattle.markdown_base.proofs.Common.{and-right, every-drop}
use Rattle.markdown_base.proofs.Facts.Bools.{and-left}
use Rattle.markdown_base.specs.declared.configuration.Constructs.{Constructs}
use Rattle.markdown_base.specs.Virtual.{Seat, virtual}
use Rattle.markdown_tokenizer.proofs.Positions.Order.{every-back, every-front}
use Rattle.mdconstructs_machines.specs.LineEvents.{all_of, ending_of, line_text, lines_in}
use Rattle.mdblock_leaf_blocks.proofs.Lines.WholeLines.{IsWhole, text-and-ending, whole-lines}
use Rattle.mdblock_leaf_blocks.specs.LeafBlocks.{Line, leaf_blocks, paragraph, text_of}
use Rattle.mdblock_leaf_blocks.specs.LeafEvents.{flow_events, leaf_block_marks, leaf_blocks_marks, linked_from}
use Rattle.mdblock_containers.proofs.PartGoes.{lines_end_behind, lines_end_front}
use Rattle.mdblock_containers.proofs.PlainLetters.{lines_each}
use Rattle.mdblock_containers.proofs.SeatFacts.{LinesEnd, lines_end}
use Rattle.mdblock_containers.specs.Letters.{lettered_seat, with_letters}
use Rattle.mdblock_containers.specs.Rows.{Row, has_none, is_paragraph, nothing_known, rest_of}
use Rattle.mdblock_containers.specs.Skeleton.{Piece, is_held, pieces_of}
use Rattle.mdblock_definitions.proofs.Covered.{rows_of, sections-hold-lines}
use Rattle.mdblock_definitions.proofs.PlainLetters.{letters-are-plain}
use Rattle.mdblock_definitions.proofs.SectionTurns.{not-blank-some}
use Rattle.mdblock_definitions.specs.Rows.{rows}
use Rattle.mdblock_definitions.specs.Sections.{Inside, Section, defined, lines, sections, table}
use Rattle.mdblock_definitions.specs.Skeleton.{all_rows, letters}
use Rattle.mdblock_paragraphs.proofs.OpenLines.{lines-of-rows, open-lines}
use Rattle.mdblock_paragraphs.proofs.ReadLines.{AreLines, EndsLine, IsShown, ends-behind, ends-line, ends-shown, endings-shown, lines-of-all, whole-shown}
use Rattle.mdblock_paragraphs.proofs.SaidRows.{some-long}
use Rattle.mdblock_paragraphs.proofs.SaidSections.{all-kept}
use Rattle.mdblock_paragraphs.proofs.ShownLines.{left, left-text, left-whole}
use Rattle.mdblock_paragraphs.proofs.ToldRows.{IsKept}
use Rattle.mdblock_paragraphs.specs.Paragraphs.{OpenLinesAreReadAsAParagraph, is_one_paragraph, lines_shown}

-- ---- one line

-- a line is shown with its line ending, and has a byte
whole-ends : (line : Line) → EndsLine line → IsWhole line
whole-ends [] h = absurd h
whole-ends (s ∷ ss) (inl h) = inl (h.0, whole-ends ss h.1)
whole-ends (s ∷ ss) (inr h) = inr h

some-ends : (line : Line) → EndsLine line → 1 ≤ length line
some-ends [] h = absurd h
some-ends (s ∷ ss) h = omega arith

one-more : (line : Line) (ls : List Line) → EndsLine line → AreLines ls → AreLines (line ∷ ls)
one-more line [] h k = (whole-ends line h, some-ends line h)
one-more line (m ∷ ls) h k = (h, k)

module _ (on : Constructs) (at : List ℕ) (r : Row) (kept : IsKept on r) (is-text : is_paragraph r.leaf ≡ true) (is-shown : AllByRecursion (IsShown at) r.line) where
  left-shown : (x : Bool) → AllByRecursion (IsShown at) (left on r kept x)
  left-shown true = every-drop (IsShown at) r.columns r.line is-shown
  left-shown false = every-drop (IsShown at) r.columns (line_text r.line) (every-front (IsShown at) (line_text r.line) (ending_of r.line) (subst (AllByRecursion (IsShown at)) (sym (text-and-ending r.line kept.whole)) is-shown))

  last-shown : (x : Bool) → AreLines (map (lettered_seat at) (left on r kept x) ∷ [])
  last-shown x =
      let l = left on r kept x in
      let text = ap (λ (t : List ℕ). length t) (left-text on r kept x) in
      let some = some-long (rest_of r) (not-blank-some (rest_of r) (kept.full is-text)) in
      let both = ap (λ (k : Line). length k) (text-and-ending l (left-whole on r kept x)) in
      let sum = length-append (line_text l) (ending_of l) in
      let bytes : length (text_of l) ≡ length (line_text l) = length-map (line_text l) (λ (s : Seat). s.byte) in
      let same = length-map l (lettered_seat at) in
      (whole-shown at l (left-shown x) (left-whole on r kept x), omega (arith, text, some, both, sum, bytes, same))

  next-shown : has_none (ending_of r.line) ≡ false → EndsLine (map (lettered_seat at) (left on r kept true))
  next-shown ends =
      let bytes : length (text_of r.line) ≡ length (line_text r.line) = length-map (line_text r.line) (λ (s : Seat). s.byte) in
      let within = kept.within in
      ends-shown at (left on r kept true) (left-shown true) (ends-behind r.columns r.line (ends-line r.line kept.whole ends) (omega (arith, within, bytes)))

-- ---- lines of a section

abbrev line_of : Row → Line
line_of r = r.line

module _ (on : Constructs) (bytes at : List ℕ) where
  abbrev IsText : Row → Type 0
  IsText r = is_paragraph r.leaf ≡ true

  abbrev HasShown : Row → Type 0
  HasShown r = AllByRecursion (IsShown at) r.line

  shown-lines : (h : Bool) (r : Row) (rs : List Row) → AllByRecursion (IsKept on) (r ∷ rs) → AllByRecursion IsText (r ∷ rs) → AllByRecursion HasShown (r ∷ rs) → LinesEnd (map line_of (r ∷ rs))
      → AreLines (map (λ (p : Piece bytes). map (lettered_seat at) p.seats) (pieces_of bytes h r rs))
  shown-lines h r [] kept texts shown ends = last-shown on at r kept.0 texts.0 shown.0 h
  shown-lines h r (q ∷ qs) kept texts shown ends =
      one-more (map (lettered_seat at) (left on r kept.0 true)) (map (λ (p : Piece bytes). map (lettered_seat at) p.seats) (pieces_of bytes h q qs)) (next-shown on at r kept.0 texts.0 shown.0 ends.0)
      (shown-lines h q qs kept.1 texts.1 shown.1 ends.1)

  all-text : (rs : List Row) → list_all (λ (row : Row). is_paragraph row.leaf) rs ≡ true → AllByRecursion IsText rs
  all-text [] h = tt
  all-text (r ∷ rs) h = (and-left (is_paragraph r.leaf) (list_all (λ (row : Row). is_paragraph row.leaf) rs) h, all-text rs (and-right (is_paragraph r.leaf) (list_all (λ (row : Row). is_paragraph row.leaf) rs) h))

  section-text : (s : Section) → is_one_paragraph s ≡ true → AllByRecursion IsText (all_rows s.part)
  section-text s h = by s.inside h
    where
      by : (i : Inside) → (elim i as (λ _. Bool) [ lines x ↦ not x && list_all (λ (row : Row). is_paragraph row.leaf) (all_rows s.part) | defined ds ↦ false | table ↦ false ]) ≡ true → AllByRecursion IsText (all_rows s.part)
      by (defined ds) h = absurd (false≢true h)
      by table h = absurd (false≢true h)
      by (lines true) h = absurd (false≢true h)
      by (lines false) h = all-text (all_rows s.part) h

  -- leaf blocks that are one paragraph, as events
  paragraph-events : (shown : List ℕ) (ls : List Line) → AreLines ls → leaf_blocks on ls ≡ paragraph ls ∷ [] → flow_events on shown (all_of ls) ≡ linked_from 0 (leaf_block_marks shown (paragraph ls))
  paragraph-events shown ls h e =
      ap (λ k. linked_from 0 (leaf_blocks_marks shown (leaf_blocks on k))) (lines-of-all ls h)
      ∙ ap (λ k. linked_from 0 (leaf_blocks_marks shown k)) e
      ∙ ap (linked_from 0) (append-nil (leaf_block_marks shown (paragraph ls)))

  abbrev IsOne : Section → Type 0
  IsOne s = is_one_paragraph s ≡ true → leaf_blocks on (lines_shown bytes at s.part) ≡ paragraph (lines_shown bytes at s.part) ∷ []

  abbrev IsReadAsOne : List ℕ → Section → Type 0
  IsReadAsOne shown s = is_one_paragraph s ≡ true → flow_events on shown (all_of (lines_shown bytes at s.part)) ≡ linked_from 0 (leaf_block_marks shown (paragraph (lines_shown bytes at s.part)))

  each-read : (shown : List ℕ) (ss : List Section) → AllByRecursion IsOne ss → AllByRecursion (IsKept on) (rows_of ss) → AllByRecursion HasShown (rows_of ss) → LinesEnd (map line_of (rows_of ss)) → AllByRecursion (IsReadAsOne shown) ss
  each-read shown [] one kept shows ends = tt
  each-read shown (s ∷ ss) one kept shows ends =
      let rs = all_rows s.part in
      let more = rows_of ss in
      let split = subst LinesEnd (map-append line_of rs more) ends in (
        (λ h.
            paragraph-events shown (lines_shown bytes at s.part)
            (shown-lines (is_held s.part) s.part.first s.part.more (every-front (IsKept on) rs more kept) (section-text s h) (every-front HasShown rs more shows) (lines_end_front 0 bytes on (map line_of rs) (map line_of more) split))
            (one.0 h)),
        each-read shown ss one.1 (every-back (IsKept on) rs more kept) (every-back HasShown rs more shows) (lines_end_behind 0 bytes on (map line_of rs) (map line_of more) split),
      )

-- ---- a document

rows-each : (P : Line → Type 0) (rs : List Row) → AllByRecursion P (map line_of rs) → AllByRecursion (λ (r : Row). P r.line) rs
rows-each P [] h = tt
rows-each P (r ∷ rs) h = (h.0, rows-each P rs h.1)

pub open-events : OpenLinesAreReadAsAParagraph
open-events on t bytes =
    let seats = virtual t bytes in
    let at = letters on seats in
    let ls = lines_in seats in
    let rs = rows on ls in
    let ss = sections on rs in
    let held : rows_of ss ≡ rs = sections-hold-lines on rs in
    let same : map line_of (rows_of ss) ≡ ls = ap (map line_of) held ∙ lines-of-rows on (record { before = nothing_known on; text = [] }) 1 ls in
    let shows : AllByRecursion (AllByRecursion (IsShown at)) ls = lines_each (IsShown at) seats (endings-shown t bytes at (letters-are-plain on t bytes)) in
    each-read on bytes at (with_letters at bytes) ss (open-lines on t bytes) (subst (AllByRecursion (IsKept on)) (sym held) (all-kept on ls (whole-lines seats)))
    (rows-each (AllByRecursion (IsShown at)) (rows_of ss) (subst (AllByRecursion (AllByRecursion (IsShown at))) (sym same) shows)) (subst LinesEnd (sym same) (lines_end seats))
