-- The text of each chain of a document's skeleton is that of lines of a section: so what holds of these holds of it.
use Rattle.std.proofs.Common.{◌≡◌, ℕ, ◌<◌, ◌≤◌, Bool, true, false, cond, List, [], ◌∷◌, ◌++◌, ap, append_assoc, arith, drop, length, refl, subst, sym, take, ◌∙◌}
use Rattle.std.specs.Prelude.{filter, not, None, Some}
use Rattle.std.specs.List.{AllByRecursion}
use Rattle.std.proofs.lemmas.Bool.{false≢true}
use Rattle.std.proofs.lemmas.List.{drop-append-le, drop-map, length-append, length-drop, length-map, take-append-drop}
use Rattle.std.proofs.lemmas.List.Sums.{prefix_len-le-length}
use Rattle.markdown_base.specs.declared.configuration.Constructs.{Constructs}
use Rattle.markdown_base.specs.declared.event.Content.TheVariants as content
use Rattle.markdown_base.specs.declared.event.Name.TheVariants as name
use Rattle.markdown_base.specs.Places.{in_range, shown}
use Rattle.markdown_base.specs.Virtual.{Seat, end_after, virtual}
use Rattle.markdown_tokenizer.proofs.Positions.Order.{every-back, every-front}
use Rattle.markdown_tokenizer.specs.Text.{Given}
use Rattle.mdconstructs_tables.specs.Breaks.{is_white}
use Rattle.mdconstructs_machines.proofs.BlockReads.Accounts.{lines-are-all}
use Rattle.mdconstructs_machines.specs.LineEvents.{all_of, line_text, lines_in}
use Rattle.mdinline_text_machine.proofs.DeepSpans.Places.{chain-from, origin, place-shown, range-of}
use Rattle.mdblock_leaf_blocks.proofs.Marks.LeafSpans.{text-shorter}
use Rattle.mdblock_leaf_blocks.specs.LeafEvents.{Chunk, Mark, chunk_span, white}
use Rattle.mdblock_leaf_blocks.specs.LineKinds.{indent}
use Rattle.mdblock_containers.proofs.PartGoes.{cut, cut_is, first_piece, front_is, lines_of, other_pieces, pieces_over, pieces_split}
use Rattle.mdblock_containers.proofs.PartSpans.{RowFits}
use Rattle.mdblock_containers.proofs.Pieces.{AreJoined, Over, pieces_joined}
use Rattle.mdblock_containers.proofs.PrefixSpans.{leaf_is_unlinked, prefixes_unlinked}
use Rattle.mdblock_containers.proofs.SeatFacts.{LinesEnd, document_lines, lines_end}
use Rattle.mdblock_containers.proofs.SkeletonChains.{Unlinked, unlinked_both}
use Rattle.mdblock_containers.specs.Prefixes.{columns_of}
use Rattle.mdblock_containers.specs.Rows.{Row, has_none, rest_of}
use Rattle.mdblock_containers.specs.Skeleton.{Part, Piece, begun_all, chunks_of, end_of, ending_marks, exits, inside_of, is_held, joined_pieces, pieces_of, prefixes_marks, shared}
use Rattle.mdblock_table_marks.proofs.NoCellMarks.{begun-all-unlinked, ending-unlinked, exits-unlinked}
use Rattle.mdblock_definitions.proofs.Covered.{rows_of}
use Rattle.mdblock_definitions.proofs.DefinitionMarks.{definitions-are-shaped}
use Rattle.mdblock_definitions.proofs.SectionGoes.{all-seats, ending, ends-front, ends-rest, first-fits, inner, lines_in_all, others-fit, part, part-is, seats}
use Rattle.mdblock_definitions.proofs.SectionTurns.{AreCut, InsideIs, RowIs, SectionIs, all-of-sections, document-cut, document-lines}
use Rattle.mdblock_definitions.specs.Definitions.{definitions_marks, places_in}
use Rattle.mdblock_definitions.specs.Rows.{rows}
use Rattle.mdblock_table_marks.proofs.TableShapes.{tables-are-shaped}
use Rattle.mdblock_table_marks.specs.TableMarks.{table_marks}
use Rattle.mdblock_definitions.specs.Sections.{Inside, Section, defined, lines, sections, table}
use Rattle.mdblock_definitions.specs.Skeleton.{all_rows, behind_definitions, behind_marks, inside_marks, section_marks, sections_marks}
use Rattle.mdblock_text_lines.proofs.ChunkRuns.{Good, run}
use Rattle.mdblock_text_lines.proofs.StretchLines.{RestTails, Tails, TextTails, all_seats, joined-rest, joined-seats, joined-tails, pieces-tails, pieces-texts, texts}

none-left : (xs : List Seat) → has_none xs ≡ true → [] ≡ xs
none-left [] e = refl
none-left (x ∷ xs) e = absurd (false≢true e)

module _ (g : Given) (some : 0 < g.tab) (Q : List Seat → Type 0) where
  abbrev t : ℕ
  t = g.tab

  abbrev bytes : List ℕ
  bytes = g.bytes

  abbrev V : List Seat
  V = virtual t bytes

  abbrev IsGood : List Mark → Type 0
  IsGood = Good g Q

  -- ---- marks without chunks
  unlinked-good : (xs ys : List Mark) → Unlinked xs → IsGood ys → IsGood (xs ++ ys)
  unlinked-good [] ys h k = k
  unlinked-good ((e, None) ∷ xs) ys h k = (h.0, unlinked-good xs ys h.1 k)
  unlinked-good ((e, Some c) ∷ xs) ys h k = absurd h

  unlinked-run : (xs ys : List Mark) → Unlinked xs → run g Q (xs ++ ys) ≡ run g Q ys
  unlinked-run [] ys h = refl
  unlinked-run ((e, None) ∷ xs) ys h = unlinked-run xs ys h.1
  unlinked-run ((e, Some c) ∷ xs) ys h = absurd h

  only-good : (xs : List Mark) → Unlinked xs → IsGood xs
  only-good [] h = tt
  only-good ((e, None) ∷ xs) h = (h.0, only-good xs h.1)
  only-good ((e, Some c) ∷ xs) h = absurd h

  -- ---- chunks
  -- what is between the places of a chunk
  chunk-range : (pre : List Seat) (s : Seat) (ss after : List Seat) → V ≡ pre ++ ((s ∷ ss) ++ after) → filter (in_range (shown bytes s.point) (shown bytes (end_after s.end ss))) V ≡ s ∷ ss
  chunk-range pre s ss after whole =
      let q = end_after (origin t bytes some) pre in
      let chain = chain-from t bytes some pre ((s ∷ ss) ++ after) whole in
      let from : shown bytes s.point ≡ q = chain.1.shown_is in
      let to : shown bytes (end_after s.end ss) ≡ end_after q (s ∷ ss) = place-shown t bytes q (s ∷ ss) after chain in
      (λ j. filter (in_range (from j) (to j)) V) ∙ range-of t bytes some pre (s ∷ ss) after whole

  -- pieces over virtual bytes
  abbrev Cover : List (Piece bytes) → List Seat → Type 0
  Cover [] ss = ss ≡ []
  Cover (p ∷ ps) ss = (skip : List Seat) × (rest : List Seat) × (ss ≡ skip ++ (p.seats ++ rest)) × Unlinked p.before × Cover ps rest

  cover-of : (ps : List (Piece bytes)) (ss : List Seat) → Over t bytes ps ss → Cover ps ss
  cover-of [] ss h = h
  cover-of (p ∷ ps) ss (skip, rest, is, prefix, ends, others) = (skip, rest, is, prefix.unlinked, cover-of ps rest others)

  abbrev all : List (Piece bytes) → List Seat
  all ps = all_seats bytes ps

  abbrev chunk_of : Bool → List (Piece bytes) → Chunk
  chunk_of w ps = record { content = content.Content; has_previous = w; has_next = not (has_none (all ps)) }

  -- what comes behind a piece
  abbrev RunsOn : List (Piece bytes) → List Mark → Type 0
  RunsOn ps ms = has_none (all ps) ≡ false → run g Q (chunks_of bytes true ps ++ ms) ≡ all ps

  here-run : (w : Bool) (ps : List (Piece bytes)) (ms : List Mark) (pre : List Seat) (s : Seat) (ss after : List Seat) → V ≡ pre ++ ((s ∷ ss) ++ after) → RunsOn ps ms
      → run g Q (chunk_span bytes (Some (chunk_of w ps)) name.Data (s ∷ ss) [] ++ (chunks_of bytes true ps ++ ms)) ≡ (s ∷ ss) ++ all ps
  here-run w ps ms pre s ss after whole on = λ i. chunk-range pre s ss after whole i ++ by (has_none (all ps)) refl i
    where
      by : (b : Bool) → has_none (all ps) ≡ b → cond (not b) (run g Q (chunks_of bytes true ps ++ ms)) [] ≡ all ps
      by true e = none-left (all ps) e
      by false e = on e

  around : (x : Piece bytes) (w : Bool) (ps : List (Piece bytes)) (ms : List Mark)
      → chunks_of bytes w (x ∷ ps) ++ ms ≡ x.before ++ (chunk_span bytes (Some (chunk_of w ps)) name.Data x.seats [] ++ (chunks_of bytes true ps ++ ms))
  around x w ps ms =
      let chunk = chunk_span bytes (Some (chunk_of w ps)) name.Data x.seats [] in
      let cs = chunks_of bytes true ps in
      append_assoc x.before (chunk ++ cs) ms ∙ ap (λ l. x.before ++ l) (append_assoc chunk cs ms)

  behind-skip : (pre skip seats more after ss : List Seat) → V ≡ pre ++ (ss ++ after) → ss ≡ skip ++ (seats ++ more) → V ≡ (pre ++ skip) ++ (seats ++ (more ++ after))
  behind-skip pre skip seats more after ss whole is =
      whole ∙ ap (λ l. pre ++ l) (ap (λ l. l ++ after) is ∙ append_assoc skip (seats ++ more) after ∙ ap (λ l. skip ++ l) (append_assoc seats more after)) ∙ sym (append_assoc pre skip (seats ++ (more ++ after)))

  runs-on : (w : Bool) (ps : List (Piece bytes)) (ms : List Mark) (ss pre after : List Seat) → V ≡ pre ++ (ss ++ after) → Cover ps ss → has_none (all ps) ≡ false → run g Q (chunks_of bytes w ps ++ ms) ≡ all ps
  runs-on w [] ms ss pre after whole over filled = absurd (false≢true (sym filled))
  runs-on w (x ∷ ps) ms ss pre after whole (skip, more, is, unlinked, others) filled =
      ap (run g Q) (around x w ps ms) ∙ unlinked-run x.before _ unlinked
      ∙ by x.seats (behind-skip pre skip x.seats more after ss whole is) filled (λ pre' there. runs-on true ps ms more pre' after there others)
    where
      by : (l : List Seat) → V ≡ (pre ++ skip) ++ (l ++ (more ++ after)) → has_none (l ++ all ps) ≡ false → ((pre' : List Seat) → V ≡ pre' ++ (more ++ after) → RunsOn ps ms)
          → run g Q (chunk_span bytes (Some (chunk_of w ps)) name.Data l [] ++ (chunks_of bytes true ps ++ ms)) ≡ l ++ all ps
      by [] there some rest = rest (pre ++ skip) there some
      by (s ∷ l) there some rest = here-run w ps ms (pre ++ skip) s l (more ++ after) there (rest ((pre ++ skip) ++ (s ∷ l)) (there ∙ sym (append_assoc (pre ++ skip) (s ∷ l) (more ++ after))))

  chunks-good : (w : Bool) (ps : List (Piece bytes)) (ms : List Mark) (ss pre after : List Seat) → V ≡ pre ++ (ss ++ after) → Cover ps ss → Tails bytes Q ps → IsGood ms → IsGood (chunks_of bytes w ps ++ ms)
  chunks-good w [] ms ss pre after whole over tails good = good
  chunks-good w (x ∷ ps) ms ss pre after whole (skip, more, is, unlinked, others) tails good =
      subst IsGood (sym (around x w ps ms))
      (unlinked-good x.before _ unlinked
      (by x.seats (behind-skip pre skip x.seats more after ss whole is) tails.0 (λ pre' there. chunks-good true ps ms more pre' after there others tails.1 good) (λ pre' there. runs-on true ps ms more pre' after there others)))
    where
      by : (l : List Seat) → V ≡ (pre ++ skip) ++ (l ++ (more ++ after)) → Q (l ++ all ps) → ((pre' : List Seat) → V ≡ pre' ++ (more ++ after) → IsGood (chunks_of bytes true ps ++ ms))
          → ((pre' : List Seat) → V ≡ pre' ++ (more ++ after) → RunsOn ps ms)
          → IsGood (chunk_span bytes (Some (chunk_of w ps)) name.Data l [] ++ (chunks_of bytes true ps ++ ms))
      by [] there q rest on = rest (pre ++ skip) there
      by (s ∷ l) there q rest on =
          let next = there ∙ sym (append_assoc (pre ++ skip) (s ∷ l) (more ++ after)) in
          (subst Q (sym (here-run w ps ms (pre ++ skip) s l (more ++ after) there (on ((pre ++ skip) ++ (s ∷ l)) next))) q, (refl, rest ((pre ++ skip) ++ (s ∷ l)) next))

  -- ---- sections
  -- what is asked of the lines of a section: from each line on it is so; of the first one directly behind definitions, without its white space
  abbrev pub BehindTails : (held : Bool) → List Row → Type 0
  BehindTails held [] = Unit {0}
  BehindTails held (next ∷ more) = TextTails bytes Q held next more

  abbrev pub IsFine : Section → Type 0
  IsFine s =
      let r = s.part.first in
      let held = is_held s.part in
      elim s.inside as (λ _. Type 0) [
        | lines is_behind ↦ cond is_behind (Q (drop (indent (rest_of r)) (texts held r s.part.more)) × BehindTails held s.part.more) (r.is_blank ≡ false → TextTails bytes Q held r s.part.more)
        | defined ds ↦ Unit {0}
        | table ↦ Unit {0}
      ]

  module _ (s : Section) (is : SectionIs bytes s) (fits : AllByRecursion RowIs (all_rows s.part)) (ends : LinesEnd (lines_of (all_rows s.part))) where
    abbrev p : Part
    p = s.part

    abbrev r : Row
    r = p.first

    abbrev held : Bool
    held = is_held p

    abbrev own : List Seat
    own = seats t bytes s is fits ends

    abbrev within : List Seat
    within = inner t bytes s is fits ends

    abbrev first : Piece bytes
    first = first_piece t bytes held r p.more

    abbrev js : List (Piece bytes)
    js = joined_pieces bytes (pieces_of bytes held r p.more)

    joined : AreJoined t bytes js first.before (drop r.columns own) first.seats
    joined =
        let k = pieces_joined t bytes first (other_pieces t bytes held p.more) (drop r.columns own) (pieces_over t bytes held r p.more (first-fits t bytes s is fits ends) (others-fit t bytes s is fits ends) is.none_begin ends) in
        subst (λ (ps : List (Piece bytes)). AreJoined t bytes (joined_pieces bytes ps) first.before (drop r.columns own) first.seats) (sym (pieces_split t bytes held r p.more)) k

    js-texts : all js ≡ texts held r p.more
    js-texts = joined-seats bytes (pieces_of bytes held r p.more) ∙ pieces-texts bytes held r p.more

    not-blank : r.is_blank ≡ false → within ≡ drop r.columns own
    not-blank filled = ap (λ k. drop k own) (cut_is t bytes (part t bytes s is fits ends) (part-is t bytes s is fits ends) filled)

    -- lines that leaf blocks are read from, or a blank line
    lines-good : (ms : List Mark) (pre after : List Seat) → V ≡ pre ++ (within ++ after) → (r.is_blank ≡ false → TextTails bytes Q held r p.more) → IsGood ms → IsGood (inside_of bytes p ++ ms)
    lines-good ms pre after whole fine good = by r.is_blank refl
      where
        by : (b : Bool) → r.is_blank ≡ b
            → IsGood (cond b (white bytes (line_text (drop (cond (has_none r.begun) (columns_of (take (length p.stands) r.went_on)) r.columns) r.line)))
            (elim js as (λ _. List Mark) [ [] ↦ [] | x ∷ xs ↦ chunks_of bytes false (record x { before = [] } ∷ xs) ]) ++ ms)
        by true e = unlinked-good (white bytes _) ms (leaf_is_unlinked bytes name.SpaceOrTab _) good
        by false e = of js joined (joined-tails bytes Q (pieces_of bytes held r p.more) (pieces-tails bytes Q held r p.more (fine e)))
          where
            there : V ≡ pre ++ (drop r.columns own ++ after)
            there = whole ∙ ap (λ l. pre ++ (l ++ after)) (not-blank e)

            of : (ks : List (Piece bytes)) → AreJoined t bytes ks first.before (drop r.columns own) first.seats → Tails bytes Q ks → IsGood ((elim ks as (λ _. List Mark) [ [] ↦ [] | x ∷ xs ↦ chunks_of bytes false (record x { before = [] } ∷ xs) ]) ++ ms)
            of [] h tails = absurd h
            of (x ∷ xs) h tails =
                chunks-good false (record x { before = [] } ∷ xs) ms (drop r.columns own) pre after there ([], h.1.0, h.1.1, tt, cover-of xs h.1.0 h.1.3) tails good

    -- its first line has so much white space at least
    module _ (filled : r.is_blank ≡ false) where
      abbrev c : ℕ
      c = indent (rest_of r)

      first-long : c ≤ length first.seats
      first-long = by held p.more
        where
          fit : RowFits r
          fit = first-fits t bytes s is fits ends

          long-text : c ≤ length (drop r.columns (line_text r.line))
          long-text =
              let same : length (rest_of r) ≡ length (drop r.columns (line_text r.line)) =
              ap length (drop-map (λ (x : Seat). x.byte) r.columns (line_text r.line)) ∙ length-map (drop r.columns (line_text r.line)) (λ (x : Seat). x.byte) in
              subst (λ n. c ≤ n) same (prefix_len-le-length is_white (rest_of r))

          long-line : c ≤ length (drop r.columns r.line)
          long-line =
              let less = text-shorter r.line fit.line.whole in
              let d = length-drop r.columns (line_text r.line) in
              let e = length-drop r.columns r.line in
              let most = long-text in
              omega (arith, most, less, d, e)

          by : (x : Bool) (more : List Row) → c ≤ length (first_piece t bytes x r more).seats
          by true [] = long-line
          by false [] = long-text
          by x (q ∷ qs) = long-line

      behind-good : (ms : List Mark) (pre after : List Seat) → V ≡ pre ++ (within ++ after) → Q (drop c (texts held r p.more)) → BehindTails held p.more → IsGood ms → IsGood (behind_definitions bytes p ++ ms)
      behind-good ms pre after whole fine more good = of js joined js-texts (rest-tails held p.more more)
        where
          there : V ≡ pre ++ (drop r.columns own ++ after)
          there = whole ∙ ap (λ l. pre ++ (l ++ after)) (not-blank filled)

          rest-tails : (x : Bool) (qs : List Row) → BehindTails x qs → RestTails bytes Q (joined_pieces bytes (pieces_of bytes x r qs))
          rest-tails x [] h = tt
          rest-tails x (q ∷ qs) h = joined-rest bytes Q (first_piece t bytes x r (q ∷ qs)) (pieces_of bytes x q qs) (pieces-tails bytes Q x q qs h)

          of : (ks : List (Piece bytes)) → AreJoined t bytes ks first.before (drop r.columns own) first.seats → all ks ≡ texts held r p.more → RestTails bytes Q ks
              → IsGood ((elim ks as (λ _. List Mark) [ [] ↦ [] | x ∷ xs ↦ white bytes (take c x.seats) ++ chunks_of bytes false (record x { before = []; seats = drop c x.seats } ∷ xs) ]) ++ ms)
          of [] h same tails = absurd h
          of (x ∷ xs) h same tails =
              let front = take c x.seats in
              let y : Piece bytes = record x { before = []; seats = drop c x.seats } in
              let rest = h.1.0 in
              let size = length-append first.seats h.3.0 in
              let is = ap length h.3.1 in
              let least = first-long in
              let few : c ≤ length x.seats = omega (arith, size, is, least) in
              let split : drop r.columns own ≡ front ++ (y.seats ++ rest) = h.1.1 ∙ ap (λ l. l ++ rest) (sym (take-append-drop c x.seats)) ∙ append_assoc front y.seats rest in
              let next : V ≡ (pre ++ front) ++ ((y.seats ++ rest) ++ after) =
              there ∙ ap (λ l. pre ++ l) (ap (λ l. l ++ after) split ∙ append_assoc front (y.seats ++ rest) after) ∙ sym (append_assoc pre front ((y.seats ++ rest) ++ after)) in
              let own-text : Q (y.seats ++ all xs) = subst Q (sym (ap (drop c) same) ∙ drop-append-le c x.seats (all xs) few) fine in
              let chunks = chunks_of bytes false (y ∷ xs) in
              subst IsGood (sym (append_assoc (white bytes front) chunks ms))
              (unlinked-good (white bytes front) (chunks ++ ms) (leaf_is_unlinked bytes name.SpaceOrTab front)
              (chunks-good false (y ∷ xs) ms (y.seats ++ rest) (pre ++ front) after next ([], rest, refl, tt, cover-of xs rest h.1.3) (own-text, tails) good))

    inside-good : (ms : List Mark) (pre after : List Seat) → V ≡ pre ++ (within ++ after) → IsFine s → IsGood ms → IsGood (inside_marks bytes p s.inside ++ ms)
    inside-good ms pre after whole fine good = by s.inside is.inside fine
      where
        by : (i : Inside) → InsideIs bytes p i
            → (elim i as (λ _. Type 0) [
              | lines is_behind ↦ cond is_behind (Q (drop (indent (rest_of r)) (texts held r p.more)) × BehindTails held p.more) (r.is_blank ≡ false → TextTails bytes Q held r p.more)
              | defined ds ↦ Unit {0}
              | table ↦ Unit {0}
            ]) → IsGood (inside_marks bytes p i ++ ms)
        by (lines true) h k = behind-good (h refl) ms pre after whole k.0 k.1 good
        by (lines false) h k = lines-good ms pre after whole k good
        by (defined ds) h k =
            unlinked-good (definitions_marks bytes ds (places_in bytes (all_rows p))) ms (definitions-are-shaped bytes ds (all_rows p) h.0.laid (first-fits t bytes s is fits ends, others-fit t bytes s is fits ends)).1 good
        by table h k = unlinked-good (table_marks bytes p) ms (tables-are-shaped bytes r p.more).1 good

    section-good : (ms : List Mark) (pre after : List Seat) → V ≡ pre ++ (own ++ after) → IsFine s → IsGood ms → IsGood (section_marks bytes s ++ ms)
    section-good ms pre after whole fine good =
        let q = part t bytes s is fits ends in
        let h = part-is t bytes s is fits ends in
        let n = cut t bytes q h in
        let front = take n r.line in
        let split : own ≡ front ++ within = sym (take-append-drop n own) ∙ ap (λ l. l ++ within) (front_is t bytes q h) in
        let next : V ≡ (pre ++ front) ++ (within ++ after) = whole ∙ ap (λ l. pre ++ l) (ap (λ l. l ++ after) split ∙ append_assoc front within after) ∙ sym (append_assoc pre front (within ++ after)) in
        let went = prefixes_marks bytes (take (length p.stands) r.went_on) r.line in
        let begun = begun_all bytes r.begun (drop (columns_of r.went_on) r.line) in
        let inside = inside_marks bytes p s.inside in
        let assoc : section_marks bytes s ++ ms ≡ went ++ (begun ++ (inside ++ ms)) = append_assoc went (begun ++ inside) ms ∙ ap (λ l. went ++ l) (append_assoc begun inside ms) in
        subst IsGood (sym assoc)
        (unlinked-good went _ (prefixes_unlinked bytes (take (length p.stands) r.went_on) r.line)
        (unlinked-good begun _ (begun-all-unlinked bytes r.begun (drop (columns_of r.went_on) r.line)) (inside-good ms (pre ++ front) after next fine good)))

  module _ (on : Constructs) where
    -- what comes behind a section
    behind-all : (s : Section) (is : SectionIs bytes s) (fits : AllByRecursion RowIs (all_rows s.part)) (ends : LinesEnd (lines_of (all_rows s.part))) (ss : List Section)
        → AreCut bytes s.part.frames ss → AllByRecursion RowIs (rows_of ss) → LinesEnd (lines_in_all t bytes ss) → AllByRecursion IsFine ss
        → (pre : List Seat) → V ≡ pre ++ (ending t bytes s is fits ends ++ all_of (lines_in_all t bytes ss)) → IsGood (behind_marks bytes s.part ss)
    behind-all s is fits ends [] are-cut rows-fit rows-end fine pre whole =
        only-good _ (unlinked_both (exits bytes s.part.frames (end_of bytes s.part)) (ending_marks bytes s.part) (exits-unlinked bytes s.part.frames (end_of bytes s.part)) (ending-unlinked bytes s.part))
    behind-all s is fits ends (n ∷ ss) are-cut rows-fit rows-end fine pre whole =
        let p = s.part in
        let gone = drop (shared p.frames n.part.frames) p.frames in
        let here-ends = ending t bytes s is fits ends in
        let fits-next = every-front RowIs (all_rows n.part) (rows_of ss) rows-fit in
        let ends-next = ends-front t bytes on n ss rows-end in
        let text = seats t bytes n are-cut.1 fits-next ends-next in
        let last = ending t bytes n are-cut.1 fits-next ends-next in
        let rest = all_of (lines_in_all t bytes ss) in
        let front = pre ++ here-ends in
        let there : V ≡ front ++ (text ++ (last ++ rest)) = whole ∙ ap (λ l. pre ++ (here-ends ++ l)) (all-seats t bytes n are-cut.1 fits-next ends-next ss) ∙ sym (append_assoc pre here-ends (text ++ (last ++ rest))) in
        let more = behind-all n are-cut.1 fits-next ends-next ss are-cut.2 (every-back RowIs (all_rows n.part) (rows_of ss) rows-fit) (ends-rest t bytes on n ss rows-end) fine.1 (front ++ text) (there ∙ sym (append_assoc front text (last ++ rest))) in
        unlinked-good (exits bytes gone (end_of bytes p)) _ (exits-unlinked bytes gone (end_of bytes p))
        (unlinked-good (ending_marks bytes p) _ (ending-unlinked bytes p) (section-good n are-cut.1 fits-next ends-next (behind_marks bytes n.part ss) front (last ++ rest) there fine.0 more))

    sections-good : (ss : List Section) → AreCut bytes [] ss → AllByRecursion RowIs (rows_of ss) → LinesEnd (lines_in_all t bytes ss) → AllByRecursion IsFine ss → V ≡ all_of (lines_in_all t bytes ss) → IsGood (sections_marks bytes ss)
    sections-good [] are-cut rows-fit rows-end fine whole = tt
    sections-good (n ∷ ss) are-cut rows-fit rows-end fine whole =
        let fits-next = every-front RowIs (all_rows n.part) (rows_of ss) rows-fit in
        let ends-next = ends-front t bytes on n ss rows-end in
        let text = seats t bytes n are-cut.1 fits-next ends-next in
        let last = ending t bytes n are-cut.1 fits-next ends-next in
        let rest = all_of (lines_in_all t bytes ss) in
        let there : V ≡ text ++ (last ++ rest) = whole ∙ all-seats t bytes n are-cut.1 fits-next ends-next ss in
        section-good n are-cut.1 fits-next ends-next (behind_marks bytes n.part ss) [] (last ++ rest) there fine.0
        (behind-all n are-cut.1 fits-next ends-next ss are-cut.2 (every-back RowIs (all_rows n.part) (rows_of ss) rows-fit) (ends-rest t bytes on n ss rows-end) fine.1 text there)

    -- So it is of all marks of a document, if it is of the lines of its sections
    pub document-good : let ss = sections on (rows on (lines_in V)) in AllByRecursion IsFine ss → IsGood (sections_marks bytes ss)
    document-good fine =
        let ls = lines_in V in
        let ss = sections on (rows on ls) in
        let same : lines_in_all t bytes ss ≡ ls = all-of-sections bytes on ls in
        let are = document_lines t bytes in
        sections-good ss (document-cut bytes on ls are) (document-lines bytes on ls are) (subst LinesEnd (sym same) (lines_end V)) fine (sym (lines-are-all V) ∙ ap all_of (sym same))
