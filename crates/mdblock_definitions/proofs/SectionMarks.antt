-- What the marks of sections have, if lists of marks have it one behind another, those around sections have it, and those in sections.
use Rattle.std.proofs.Common.{ℕ, false, List, [], ◌∷◌, ◌++◌, drop, length, take}
use Rattle.std.specs.List.{AllByRecursion}
use Rattle.markdown_base.specs.declared.configuration.Constructs.{Constructs}
use Rattle.markdown_base.specs.declared.event.Point.{Point}
use Rattle.markdown_base.specs.Virtual.{Seat, virtual}
use Rattle.markdown_tokenizer.proofs.Positions.Order.{every-back, every-front}
use Rattle.mdconstructs_machines.specs.LineEvents.{lines_in}
use Rattle.mdblock_leaf_blocks.specs.LeafEvents.{Mark, white}
use Rattle.mdblock_leaf_blocks.specs.LineKinds.{indent}
use Rattle.mdblock_lines.specs.Containers.{Prefix}
use Rattle.mdblock_containers.proofs.SeatFacts.{document_lines}
use Rattle.mdblock_containers.specs.Prefixes.{columns_of}
use Rattle.mdblock_containers.specs.Rows.{rest_of}
use Rattle.mdblock_containers.specs.Skeleton.{Frame, Part, Piece, begun_all, chunks_of, end_of, ending_marks, exits, is_held, joined_pieces, pieces_of, prefixes_marks, shared}
use Rattle.mdblock_definitions.specs.Rows.{rows}
use Rattle.mdblock_definitions.specs.Sections.{Section, sections}
use Rattle.mdblock_definitions.specs.Skeleton.{all_rows, behind_definitions, behind_marks, inside_marks, section_marks, sections_marks}
use Rattle.mdblock_definitions.proofs.Covered.{rows_of}
use Rattle.mdblock_definitions.proofs.SectionTurns.{AreCut, RowIs, SectionIs, document-cut, document-lines}

-- Text directly behind definitions, of pieces that are so, has what white space and chunks of such pieces have
pub behind-definitions : (bytes : List ℕ) (Are : List Mark → Type 0) (ArePieces : List (Piece bytes) → Type 0) → Are [] → ((xs ys : List Mark) → Are xs → Are ys → Are (xs ++ ys)) → ((ss : List Seat) → Are (white bytes ss))
    → ((p : Piece bytes) (ps : List (Piece bytes)) (c : ℕ) → ArePieces (p ∷ ps) → Are (chunks_of bytes false (record p { before = []; seats = drop c p.seats } ∷ ps))) → (part : Part) → ArePieces (joined_pieces bytes (pieces_of bytes (is_held part) part.first part.more)) → Are (behind_definitions bytes part)
behind-definitions bytes Are ArePieces none both whites chunks part h = by (joined_pieces bytes (pieces_of bytes (is_held part) part.first part.more)) h
  where
    c : ℕ
    c = indent (rest_of part.first)

    by : (ps : List (Piece bytes)) → ArePieces ps → Are (elim ps as (λ _. List Mark) [ [] ↦ [] | p ∷ ps ↦ white bytes (take c p.seats) ++ chunks_of bytes false (record p { before = []; seats = drop c p.seats } ∷ ps) ])
    by [] h = none
    by (p ∷ ps) h = both (white bytes (take c p.seats)) (chunks_of bytes false (record p { before = []; seats = drop c p.seats } ∷ ps)) (whites (take c p.seats)) (chunks p ps c h)

-- marks around sections have it, and lists one behind another
pub record AreAround (bytes : List ℕ) (Are : List Mark → Type 0) : Type 0 where
  pub none : Are []
  pub both : (xs ys : List Mark) → Are xs → Are ys → Are (xs ++ ys)
  pub went_on : (ps : List Prefix) (ss : List Seat) → Are (prefixes_marks bytes ps ss)
  pub begun : (ps : List Prefix) (ss : List Seat) → Are (begun_all bytes ps ss)
  pub ended : (fs : List Frame) (p : Point) → Are (exits bytes fs p)
  pub ending : (part : Part) → Are (ending_marks bytes part)

module _ {bytes : List ℕ} {Are : List Mark → Type 0} (around : AreAround bytes Are) where
  abbrev HasInside : Section → Type 0
  HasInside s = Are (inside_marks bytes s.part s.inside)

  one : (s : Section) → HasInside s → Are (section_marks bytes s)
  one s h =
      let r = s.part.first in
      let went = take (length s.part.stands) r.went_on in
      let behind = drop (columns_of r.went_on) r.line in
      let begun = begun_all bytes r.begun behind in
      let inside = inside_marks bytes s.part s.inside in
      around.both (prefixes_marks bytes went r.line) (begun ++ inside) (around.went_on went r.line) (around.both begun inside (around.begun r.begun behind) h)

  further : (p : Part) (ss : List Section) → AllByRecursion HasInside ss → Are (behind_marks bytes p ss)
  further p [] h = around.both (exits bytes p.frames (end_of bytes p)) (ending_marks bytes p) (around.ended p.frames (end_of bytes p)) (around.ending p)
  further p (n ∷ ss) h =
      let gone = drop (shared p.frames n.part.frames) p.frames in
      let more = section_marks bytes n ++ behind_marks bytes n.part ss in
      around.both (exits bytes gone (end_of bytes p)) (ending_marks bytes p ++ more) (around.ended gone (end_of bytes p))
      (around.both (ending_marks bytes p) more (around.ending p) (around.both (section_marks bytes n) (behind_marks bytes n.part ss) (one n h.0) (further n.part ss h.1)))

  pub sections-have : (ss : List Section) → AllByRecursion HasInside ss → Are (sections_marks bytes ss)
  sections-have [] h = around.none
  sections-have (s ∷ ss) h = around.both (section_marks bytes s) (behind_marks bytes s.part ss) (one s h.0) (further s.part ss h.1)

  -- The sections of a document
  module _ (inside : (s : Section) → SectionIs bytes s → AllByRecursion RowIs (all_rows s.part) → HasInside s) where
    cut-have : (fs : List Frame) (ss : List Section) → AreCut bytes fs ss → AllByRecursion RowIs (rows_of ss) → AllByRecursion HasInside ss
    cut-have fs [] are lines = tt
    cut-have fs (s ∷ ss) are lines =
        (inside s are.1 (every-front RowIs (all_rows s.part) (rows_of ss) lines), cut-have s.part.frames ss are.2 (every-back RowIs (all_rows s.part) (rows_of ss) lines))

    pub document-has : (on : Constructs) (t : ℕ) → Are (sections_marks bytes (sections on (rows on (lines_in (virtual t bytes)))))
    document-has on t =
        let ls = lines_in (virtual t bytes) in
        let all = sections on (rows on ls) in
        let are = document_lines t bytes in
        sections-have all (cut-have [] all (document-cut bytes on ls are) (document-lines bytes on ls are))
