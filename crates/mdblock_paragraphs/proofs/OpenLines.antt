-- Lines of a document behind each of which a paragraph is open are one paragraph by the definition of leaf blocks.
use Rattle.std.proofs.Common.{◌≡◌, ◌∙◌, ℕ, suc, Bool, true, false, List, [], ◌∷◌, ap, map, not, refl, subst, sym}
use Rattle.std.specs.Prelude.{◌&&◌}
use Rattle.std.specs.List.{AllByRecursion, list_all}
use Rattle.std.proofs.lemmas.Bool.{false≢true}
use Rattle.markdown_base.proofs.Common.{and-right}
use Rattle.markdown_base.proofs.Facts.Bools.{and-left}
use Rattle.markdown_base.specs.declared.configuration.Constructs.{Constructs}
use Rattle.markdown_base.specs.Virtual.{virtual}
use Rattle.markdown_tokenizer.proofs.Positions.Order.{every-back, every-front}
use Rattle.mdconstructs_machines.specs.LineEvents.{lines_in}
use Rattle.mdblock_leaf_blocks.proofs.Lines.WholeLines.{whole-lines}
use Rattle.mdblock_leaf_blocks.specs.LeafBlocks.{Line, ends_text, leaf_blocks, paragraph}
use Rattle.mdblock_leaf_blocks.specs.LineKinds.{line_kind, text}
use Rattle.mdblock_containers.specs.Letters.{lazy_underline, lettered_seat}
use Rattle.mdblock_containers.specs.Rows.{Row, is_paragraph, nothing_known, rest_of}
use Rattle.mdblock_containers.specs.Skeleton.{Piece, is_held, pieces_of}
use Rattle.mdblock_definitions.specs.Rows.{Known, known_after, row_of, rows, rows_from}
use Rattle.mdblock_definitions.specs.Sections.{Inside, Section, defined, lines, sections, table}
use Rattle.mdblock_definitions.specs.Skeleton.{all_rows, letters}
use Rattle.mdblock_definitions.proofs.Covered.{rows_of, sections-hold-lines}
use Rattle.mdblock_paragraphs.proofs.LineOrder.{AreInOrder, lines-in-order}
use Rattle.mdblock_paragraphs.proofs.LinesOfText.{one-paragraph}
use Rattle.mdblock_paragraphs.proofs.OwnLetters.{HasOwn, Lettered, SectionOwn, lettered, sections-own}
use Rattle.mdblock_paragraphs.proofs.SaidRows.{AreSaid, goes_on, mode_behind, none_open}
use Rattle.mdblock_paragraphs.proofs.SaidSections.{SectionSaid, all-kept, all-said}
use Rattle.mdblock_paragraphs.proofs.ShownLines.{first-shown, more-shown, shown}
use Rattle.mdblock_paragraphs.proofs.ToldRows.{IsKept, IsMore}
use Rattle.mdblock_paragraphs.specs.Paragraphs.{OpenLinesAreAParagraph, is_one_paragraph, lines_shown}

module _ (on : Constructs) (bytes at : List ℕ) where
  -- the lines of pieces, as they are shown
  abbrev shown_all : List (Piece bytes) → List Line
  shown_all ps = map (λ (p : Piece bytes). map (lettered_seat at) p.seats) ps

  abbrev IsOwnRow : Row → Type 0
  IsOwnRow r = HasOwn at (lazy_underline on r) r.line

  -- lines behind the first of a paragraph
  more-lines : (h : Bool) (r : Row) (rs : List Row) → AllByRecursion (IsKept on) (r ∷ rs) → AllByRecursion IsOwnRow (r ∷ rs) → AllByRecursion (IsMore on) (r ∷ rs)
      → AllByRecursion (λ (next : Line). ends_text on next ≡ false) (shown_all (pieces_of bytes h r rs))
  more-lines h r [] kept own more = (more-shown on r kept.0 at own.0 more.0 h, tt)
  more-lines h r (q ∷ qs) kept own more = (more-shown on r kept.0 at own.0 more.0 true, more-lines h q qs kept.1 own.1 more.1)

  whole-paragraph : (h : Bool) (r : Row) (rs : List Row) → AllByRecursion (IsKept on) (r ∷ rs) → AllByRecursion IsOwnRow (r ∷ rs) → (line_kind on (rest_of r) ≡ text) × (r.is_lazy ≡ false) → AllByRecursion (IsMore on) rs
      → leaf_blocks on (shown_all (pieces_of bytes h r rs)) ≡ paragraph (shown_all (pieces_of bytes h r rs)) ∷ []
  whole-paragraph h r [] kept own first more = one-paragraph on (shown on r kept.0 at own.0 h) [] (first-shown on r kept.0 at own.0 first.0 first.1 h) tt
  whole-paragraph h r (q ∷ qs) kept own first more =
      one-paragraph on (shown on r kept.0 at own.0 true) (shown_all (pieces_of bytes h q qs)) (first-shown on r kept.0 at own.0 first.0 first.1 true) (more-lines h q qs kept.1 own.1 more)

-- what is said of lines behind each of which a paragraph is open
all-more : (on : Constructs) (rs : List Row) → AreSaid on goes_on rs → list_all (λ (row : Row). is_paragraph row.leaf) rs ≡ true → AllByRecursion (IsMore on) rs
all-more on [] said h = tt
all-more on (r ∷ rs) said h =
    let here = and-left (is_paragraph r.leaf) (list_all (λ (row : Row). is_paragraph row.leaf) rs) h in
    (said.0 here, all-more on rs (subst (λ (p : Bool). AreSaid on (mode_behind goes_on p) rs) here said.1) (and-right (is_paragraph r.leaf) (list_all (λ (row : Row). is_paragraph row.leaf) rs) h))

own-rows : (on : Constructs) (at : List ℕ) (rs : List Row) → AllByRecursion (λ (l : Lettered). HasOwn at l.1 l.0.line) (map (λ (r : Row). (r, lazy_underline on r)) rs) → AllByRecursion (λ (r : Row). HasOwn at (lazy_underline on r) r.line) rs
own-rows on at [] h = tt
own-rows on at (r ∷ rs) h = (h.0, own-rows on at rs h.1)

module _ (on : Constructs) (bytes at : List ℕ) where
  abbrev IsWholeParagraph : Section → Type 0
  IsWholeParagraph s = is_one_paragraph s ≡ true → leaf_blocks on (lines_shown bytes at s.part) ≡ paragraph (lines_shown bytes at s.part) ∷ []

  one-section : (s : Section) → SectionSaid on s → SectionOwn on at s → AllByRecursion (IsKept on) (all_rows s.part) → IsWholeParagraph s
  one-section s said own kept = by s.inside said own
    where
      by : (i : Inside) → (elim i as (λ _. Type 0) [ lines x ↦ (x ≡ false → AreSaid on none_open (all_rows s.part)) | defined ds ↦ Unit {0} | table ↦ Unit {0} ])
          → AllByRecursion (λ (l : Lettered). HasOwn at l.1 l.0.line) (lettered on (record s { inside = i }))
          → (elim i as (λ _. Bool) [ lines x ↦ not x && list_all (λ (row : Row). is_paragraph row.leaf) (all_rows s.part) | defined ds ↦ false | table ↦ false ]) ≡ true
          → leaf_blocks on (lines_shown bytes at s.part) ≡ paragraph (lines_shown bytes at s.part) ∷ []
      by (defined ds) said own h = absurd (false≢true h)
      by table said own h = absurd (false≢true h)
      by (lines true) said own h = absurd (false≢true h)
      by (lines false) said own h =
          let first = s.part.first in
          let more = s.part.more in
          let here = and-left (is_paragraph first.leaf) (list_all (λ (row : Row). is_paragraph row.leaf) more) h in
          let all = said refl in
          let behind = all-more on more (subst (λ (p : Bool). AreSaid on (mode_behind none_open p) more) here all.1) (and-right (is_paragraph first.leaf) (list_all (λ (row : Row). is_paragraph row.leaf) more) h) in
          whole-paragraph on bytes at (is_held s.part) first more kept (own.0, own-rows on at more own.1) (all.0 here) behind

  each-section : (ss : List Section) → AllByRecursion (SectionSaid on) ss → AllByRecursion (SectionOwn on at) ss → AllByRecursion (IsKept on) (rows_of ss) → AllByRecursion IsWholeParagraph ss
  each-section [] said own kept = tt
  each-section (s ∷ ss) said own kept =
      (one-section s said.0 own.0 (every-front (IsKept on) (all_rows s.part) (rows_of ss) kept), each-section ss said.1 own.1 (every-back (IsKept on) (all_rows s.part) (rows_of ss) kept))

-- lines with their containers are the lines
pub lines-of-rows : (on : Constructs) (k : Known) (n : ℕ) (ls : List Line) → map (λ (r : Row). r.line) (rows_from on k n ls) ≡ ls
lines-of-rows on k n [] = refl
lines-of-rows on k n (l ∷ ls) = let r = row_of on k n l in ap (λ more. l ∷ more) (lines-of-rows on (known_after on k r) (suc n) ls)

pub open-lines : OpenLinesAreAParagraph
open-lines on t bytes =
    let seats = virtual t bytes in
    let ls = lines_in seats in
    let rs = rows on ls in
    let ss = sections on rs in
    let whole = whole-lines seats in
    let held : rows_of ss ≡ rs = sections-hold-lines on rs in
    let order : AreInOrder (map (λ (r : Row). r.line) (rows_of ss)) = subst AreInOrder (sym (ap (map (λ (r : Row). r.line)) held ∙ lines-of-rows on (record { before = nothing_known on; text = [] }) 1 ls)) (lines-in-order t bytes) in
    each-section on bytes (letters on seats) ss (all-said on ls whole) (sections-own on ss order) (subst (AllByRecursion (IsKept on)) (sym held) (all-kept on ls whole))
