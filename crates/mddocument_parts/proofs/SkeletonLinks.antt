-- Lines of a document's sections, and links of the chunks in their marks.
use Rattle.std.proofs.Common.{Bool, List, None, Some, [], arith, cond, drop, false, length, not, refl, subst, suc, sym, take, true, ℕ, ◌++◌, ◌+◌, ◌-◌, ◌∷◌, ◌≡◌, ◌≤◌}
use Rattle.std.proofs.lemmas.Bool.{false≢true}
use Rattle.std.proofs.lemmas.List.{length-append, length-drop, length-map}
use Rattle.std.proofs.lemmas.List.Filters.{length-filter_both}
use Rattle.std.proofs.lemmas.List.Sums.{sum_by-cons}
use Rattle.std.specs.List.{AllByRecursion, flat_map}
use Rattle.std.specs.Prelude.{is_some, reverse}
use Rattle.markdown_base.specs.Virtual.{Seat}
use Rattle.markdown_base.specs.declared.configuration.Constructs.{Constructs}
use Rattle.markdown_base.specs.declared.event.Content.TheVariants as content
use Rattle.markdown_base.specs.declared.event.Kind.TheVariants.{Exit}
use Rattle.markdown_base.specs.declared.event.Name.{Name}
use Rattle.markdown_base.specs.declared.event.Name.TheVariants as name
use Rattle.markdown_base.specs.declared.event.Point.{Point}
use Rattle.markdown_tokenizer.proofs.Positions.Order.{every-back, every-front}
use Rattle.mdconstructs_machines.specs.LineEvents.{ending_of, is_line_ending, line_text}
use Rattle.mdconstructs_machines.specs.Spans.{event}
use Rattle.mdblock_leaf_blocks.specs.LeafBlocks.{Line, text_of}
use Rattle.mdblock_leaf_blocks.specs.LeafEvents.{Mark, chunk_span, leaf_marks, white}
use Rattle.mdblock_leaf_blocks.specs.LineKinds.{indent, is_blank_line}
use Rattle.mdblock_lines.specs.Containers.{Prefix}
use Rattle.mdblock_containers.proofs.EndLemmas.{plain_begun}
use Rattle.mdblock_containers.proofs.JoinLemmas.{join, join_is, plain_prefixes, plain_span}
use Rattle.mdblock_containers.proofs.RestLemmas.{plain_map}
use Rattle.mdblock_containers.proofs.RowFacts.{begun_sizes, columns_within}
use Rattle.mdblock_containers.specs.Prefixes.{columns_of}
use Rattle.mdblock_containers.specs.Rows.{Row, has_none, rest_of}
use Rattle.mdblock_containers.specs.Skeleton.{Frame, Part, Piece, begun_all, chunks_of, end_of, ending_marks, exits, is_held, joined_pieces, last_line, next_chunk, piece_of, pieces_of, prefixes_marks, shared}
use Rattle.mdblock_containers.specs.Written.{NoChunk}
use Rattle.mdblock_definitions.proofs.Covered.{sections-hold-lines}
use Rattle.mdblock_definitions.proofs.PlainDefinitions.{plain-definitions, plain-places}
use Rattle.mdblock_definitions.proofs.SectionSound.{document-sound}
use Rattle.mdblock_definitions.specs.Definitions.{definitions_marks, places_in}
use Rattle.mdblock_definitions.specs.Rows.{Known, known_after, row_of, rows, rows_from}
use Rattle.mdblock_definitions.specs.Sectioned.{AreSound, IsSound}
use Rattle.mdblock_definitions.specs.Sections.{Inside, Section, defined, lines, sections, table}
use Rattle.mdblock_table_marks.proofs.TableShapes.{plain-tables}
use Rattle.mdblock_table_marks.specs.TableMarks.{table_marks}
use Rattle.mdblock_definitions.specs.Skeleton.{all_rows, behind_marks, inside_marks, section_marks, sections_marks}
use Rattle.mddocument.proofs.FlowTexts.Segments.{HasByte}
use Rattle.mddocument_parts.proofs.Chained.{AreLinkedOn, BeginsApart}
use Rattle.mddocument_parts.proofs.MovedSkeleton.{AreOk, AreRowsOk, HaveRoom, IsRowOk, Shift}
use Rattle.mddocument_parts.specs.DocumentRests.{known_at_start}

-- ==== Sections of a document by its lines: their lines are lines of the document, with its places, and where a container begins in one a byte is left.
-- ---- where a container begins

some-byte : (seats : List Seat) → 1 ≤ length seats → HasByte seats
some-byte [] h = omega (arith, h)
some-byte (s ∷ seats) h = tt

have-room : (ps : List Prefix) (seats : List Seat) → AllByRecursion (λ (p : Prefix). 1 ≤ p.size) ps → columns_of ps ≤ length seats → HaveRoom ps seats
have-room [] seats h w = tt
have-room (p ∷ ps) seats h w =
    let some = h.0 in
    let all : columns_of (p ∷ ps) ≡ p.size + columns_of ps = sum_by-cons (λ (q : Prefix). q.size) p ps in
    let left = length-drop p.size seats in
    (some-byte seats (omega (arith, some, all, w)), have-room ps (drop p.size seats) h.1 (omega (arith, all, w, left)))

-- a line is no shorter than its text
pub text-few : (line : Line) → length (text_of line) ≤ length line
text-few line =
    let size = length-map (line_text line) (λ (s : Seat). s.byte) in
    let all = length-filter_both (λ (s : Seat). not (is_line_ending s)) is_line_ending twice line in
    omega (arith, size, all)
  where
    twice : (s : Seat) → is_line_ending s ≡ not (not (is_line_ending s))
    twice s = grind arith

module _ (m : Shift) (on : Constructs) where
  row-ok : (k : Known) (number : ℕ) (line : Line) → AreOk m line → HasByte line → IsRowOk m (row_of on k number line)
  row-ok k number line h some =
      let row = row_of on k number line in
      let left : length (drop (columns_of row.went_on) line) ≡ length line - columns_of row.went_on = length-drop (columns_of row.went_on) line in
      let few = text-few line in
      let within = columns_within on k.before number line in
      record { seats = h; some = some; room = have-room row.begun (drop (columns_of row.went_on) line) (begun_sizes on k.before number line) (omega (arith, left, few, within)) }

  pub rows-ok : (k : Known) (number : ℕ) (ls : List Line) → AllByRecursion (AreOk m) ls → AllByRecursion HasByte ls → AreRowsOk m (rows_from on k number ls)
  rows-ok k number [] h some = tt
  rows-ok k number (line ∷ ls) h some = (row-ok k number line h.0 some.0, rows-ok (known_after on k (row_of on k number line)) (suc number) ls h.1 some.1)

-- ---- what holds of each line of a document holds of each line of its sections
module _ (P : Row → Type 0) where
  of-rows : (ss : List Section) → AllByRecursion P (flat_map (λ s. all_rows s.part) ss) → AllByRecursion (λ (s : Section). P s.part.first × AllByRecursion P s.part.more) ss
  of-rows [] h = tt
  of-rows (s ∷ ss) h =
      let rest = flat_map (λ s. all_rows s.part) ss in
      (every-front P (all_rows s.part) rest h, of-rows ss (every-back P (all_rows s.part) rest h))

  pub in-sections : (on : Constructs) (rows : List Row) → AllByRecursion P rows → AllByRecursion (λ (s : Section). P s.part.first × AllByRecursion P s.part.more) (sections on rows)
  in-sections on rows h = of-rows (sections on rows) (subst (AllByRecursion P) (sym (sections-hold-lines on rows)) h)

-- ==== In the marks of a document's skeleton behind each chunk that is linked on comes one, and the first is not linked back.
-- chunks of marks are linked among themselves
pub record StandAlone (ms : List Mark) : Type 0 where
  pub linked : AreLinkedOn ms
  pub apart : BeginsApart ms

next-front : (i j : ℕ) (xs ys : List Mark) → is_some (next_chunk i xs) ≡ true → is_some (next_chunk j (xs ++ ys)) ≡ true
next-front i j [] ys h = absurd (false≢true h)
next-front i j ((e, None) ∷ xs) ys h = next-front (suc i) (suc j) xs ys h
next-front i j ((e, Some chunk) ∷ xs) ys h = refl

next-back : (xs ys : List Mark) → ((j : ℕ) → is_some (next_chunk j ys) ≡ true) → (i : ℕ) → is_some (next_chunk i (xs ++ ys)) ≡ true
next-back [] ys h i = h i
next-back ((e, None) ∷ xs) ys h i = next-back xs ys h (suc i)
next-back ((e, Some chunk) ∷ xs) ys h i = refl

both-linked : (xs ys : List Mark) → AreLinkedOn xs → AreLinkedOn ys → AreLinkedOn (xs ++ ys)
both-linked [] ys h k = k
both-linked ((e, None) ∷ xs) ys h k = both-linked xs ys h k
both-linked ((e, Some chunk) ∷ xs) ys h k = ((λ f. next-front 0 0 xs ys (h.0 f)), both-linked xs ys h.1 k)

both-apart : (xs ys : List Mark) → BeginsApart xs → BeginsApart ys → BeginsApart (xs ++ ys)
both-apart [] ys h k = k
both-apart ((e, None) ∷ xs) ys h k = both-apart xs ys h k
both-apart ((e, Some chunk) ∷ xs) ys h k = h

both : (xs ys : List Mark) → StandAlone xs → StandAlone ys → StandAlone (xs ++ ys)
both xs ys h k = record { linked = both-linked xs ys h.linked k.linked; apart = both-apart xs ys h.apart k.apart }

plain : (ms : List Mark) → NoChunk ms → StandAlone ms
plain [] h = record { linked = tt; apart = tt }
plain ((e, None) ∷ ms) h = let k = plain ms h in record { linked = k.linked; apart = k.apart }
plain ((e, Some chunk) ∷ ms) h = absurd h

module _ (bytes : List ℕ) where
  -- ---- chunks
  abbrev PlainBefore : List (Piece bytes) → Type 0
  PlainBefore ps = AllByRecursion (λ (p : Piece bytes). NoChunk p.before) ps

  -- the first piece has so many virtual bytes at least
  abbrev BeginsLong : ℕ → List (Piece bytes) → Type 0
  BeginsLong n [] = Unit {0}
  BeginsLong n (p ∷ ps) = n ≤ length p.seats

  pieces-plain : (held : Bool) (r : Row) (more : List Row) → PlainBefore (pieces_of bytes held r more)
  pieces-plain held r [] = (plain_prefixes bytes r.went_on r.line, tt)
  pieces-plain held r (next ∷ more) = (plain_prefixes bytes r.went_on r.line, pieces-plain held next more)

  joined-plain : (ps : List (Piece bytes)) → PlainBefore ps → PlainBefore (joined_pieces bytes ps)
  joined-plain [] h = tt
  joined-plain (p ∷ ps) h = subst PlainBefore (sym (join_is bytes p ps)) (by (joined_pieces bytes ps) (joined-plain ps h.1))
    where
      by : (js : List (Piece bytes)) → PlainBefore js → PlainBefore (join bytes p js)
      by [] k = (h.0, tt)
      by (r ∷ rs) k = either (has_none r.before)
        where
          either : (b : Bool) → PlainBefore (cond b (record p { seats = p.seats ++ r.seats } ∷ rs) (p ∷ r ∷ rs))
          either true = (h.0, k.1)
          either false = (h.0, k)

  long-join : (n : ℕ) (p : Piece bytes) (js : List (Piece bytes)) → n ≤ length p.seats → BeginsLong n (join bytes p js)
  long-join n p [] h = h
  long-join n p (r ∷ rs) h = by (has_none r.before)
    where
      by : (b : Bool) → BeginsLong n (cond b (record p { seats = p.seats ++ r.seats } ∷ rs) (p ∷ r ∷ rs))
      by true = let all = length-append p.seats r.seats in omega (arith, h, all)
      by false = h

  long-piece : (b : Bool) (r : Row) → length (rest_of r) ≤ length (drop r.columns (cond b r.line (line_text r.line)))
  long-piece b r =
      let rest = length-drop r.columns (text_of r.line) in
      let here = length-drop r.columns (cond b r.line (line_text r.line)) in
      let few = by b in
      omega (arith, rest, here, few)
    where
      by : (b : Bool) → length (text_of r.line) ≤ length (cond b r.line (line_text r.line))
      by true = text-few r.line
      by false = let same = length-map (line_text r.line) (λ (s : Seat). s.byte) in omega (arith, same)

  long-pieces : (held : Bool) (r : Row) (more : List Row) → BeginsLong (length (rest_of r)) (joined_pieces bytes (pieces_of bytes held r more))
  long-pieces held r [] = long-piece held r
  long-pieces held r (next ∷ more) =
      let ps = pieces_of bytes held next more in
      let n = length (rest_of r) in
      subst (BeginsLong n) (sym (join_is bytes (piece_of bytes true r) ps)) (long-join n (piece_of bytes true r) (joined_pieces bytes ps) (long-piece true r))

  -- of pieces with virtual bytes there is a chunk
  some-chunk : (w : Bool) (ps : List (Piece bytes)) → not (has_none (flat_map (λ (q : Piece bytes). q.seats) ps)) ≡ true → (i : ℕ) → is_some (next_chunk i (chunks_of bytes w ps)) ≡ true
  some-chunk w [] h i = absurd (false≢true h)
  some-chunk w (p ∷ ps) h i = next-back p.before _ (by p.seats h (some-chunk true ps)) i
    where
      by : (ss : List Seat) → not (has_none (ss ++ flat_map (λ (q : Piece bytes). q.seats) ps)) ≡ true
          → (not (has_none (flat_map (λ (q : Piece bytes). q.seats) ps)) ≡ true → (i : ℕ) → is_some (next_chunk i (chunks_of bytes true ps)) ≡ true) → (j : ℕ) → is_some (next_chunk j (chunk_span bytes (Some (record { content = content.Content; has_previous = w; has_next = not (has_none (flat_map (λ (q : Piece bytes). q.seats) ps)) })) name.Data ss [] ++ chunks_of bytes true ps)) ≡ true
      by [] k rest j = rest k j
      by (s ∷ ss) k rest j = refl

  chunks-linked : (w : Bool) (ps : List (Piece bytes)) → PlainBefore ps → AreLinkedOn (chunks_of bytes w ps)
  chunks-linked w [] h = tt
  chunks-linked w (p ∷ ps) h = both-linked p.before _ (plain p.before h.0).linked (by p.seats (chunks-linked true ps h.1))
    where
      by : (ss : List Seat) → AreLinkedOn (chunks_of bytes true ps)
          → AreLinkedOn (chunk_span bytes (Some (record { content = content.Content; has_previous = w; has_next = not (has_none (flat_map (λ (q : Piece bytes). q.seats) ps)) })) name.Data ss [] ++ chunks_of bytes true ps)
      by [] k = k
      by (s ∷ ss) k = ((λ f. some-chunk true ps f 1), k)

  chunks-apart : (ss : List Seat) (ps : List (Piece bytes)) → 1 ≤ length ss → BeginsApart (chunks_of bytes false (record { before = []; seats = ss } ∷ ps))
  chunks-apart [] ps h = absurd (omega (arith, h))
  chunks-apart (s ∷ ss) ps h = refl

  chunks-alone : (ss : List Seat) (ps : List (Piece bytes)) → 1 ≤ length ss → PlainBefore ps → StandAlone (chunks_of bytes false (record { before = []; seats = ss } ∷ ps))
  chunks-alone ss ps h k = record { linked = chunks-linked false (record { before = []; seats = ss } ∷ ps) (tt, k); apart = chunks-apart ss ps h }

  plain-leaf : (n : Name) (ss : List Seat) → StandAlone (leaf_marks bytes n ss)
  plain-leaf n ss = plain (leaf_marks bytes n ss) (plain_span bytes n ss [] tt)

  -- ---- what is in a section
  abbrev IsBlankAsText : Row → Type 0
  IsBlankAsText r = r.is_blank ≡ is_blank_line (rest_of r)

  some-text : (t : List ℕ) → is_blank_line t ≡ false → 1 ≤ length t
  some-text [] h = absurd (false≢true (sym h))
  some-text (b ∷ t) h = omega arith

  -- a blank line behind its prefixes
  abbrev front_of : Part → List Seat
  front_of p = drop (cond (has_none p.first.begun) (columns_of (take (length p.stands) p.first.went_on)) p.first.columns) p.first.line

  inside-alone : (p : Part) (i : Inside) → IsBlankAsText p.first → IsSound p i → StandAlone (inside_marks bytes p i)
  inside-alone p (defined ds) blank sound = plain (definitions_marks bytes ds (places_in bytes (all_rows p))) (plain-definitions bytes ds (places_in bytes (all_rows p)) (plain-places bytes (all_rows p)))
  inside-alone p table blank sound = plain (table_marks bytes p) (plain-tables bytes p.first p.more)
  inside-alone p (lines true) blank sound = by (joined_pieces bytes (pieces_of bytes (is_held p) p.first p.more)) (long-pieces (is_held p) p.first p.more) (joined-plain _ (pieces-plain (is_held p) p.first p.more))
    where
      by : (js : List (Piece bytes)) → BeginsLong (length (rest_of p.first)) js → PlainBefore js
          → StandAlone (elim js [
            | [] ↦ []
            | q ∷ qs ↦ white bytes (take (indent (rest_of p.first)) q.seats) ++ chunks_of bytes false (record q { before = []; seats = drop (indent (rest_of p.first)) q.seats } ∷ qs)
          ])
      by [] long k = record { linked = tt; apart = tt }
      by (q ∷ qs) long k =
          let n = indent (rest_of p.first) in
          let left = length-drop n q.seats in
          let text = length-drop n (rest_of p.first) in
          let some = sound.1 in
          both (white bytes (take n q.seats)) _ (plain-leaf name.SpaceOrTab (take n q.seats)) (chunks-alone (drop n q.seats) qs (omega (arith, left, text, some, long)) k.1)
  inside-alone p (lines false) blank sound = by p.first.is_blank blank (joined_pieces bytes (pieces_of bytes (is_held p) p.first p.more)) (long-pieces (is_held p) p.first p.more) (joined-plain _ (pieces-plain (is_held p) p.first p.more))
    where
      by : (b : Bool) → b ≡ is_blank_line (rest_of p.first) → (js : List (Piece bytes)) → BeginsLong (length (rest_of p.first)) js → PlainBefore js
          → StandAlone (cond b (white bytes (line_text (front_of p))) (elim js [ [] ↦ [] | q ∷ qs ↦ chunks_of bytes false (record q { before = [] } ∷ qs) ]))
      by true e js long k = plain-leaf name.SpaceOrTab (line_text (front_of p))
      by false e [] long k = record { linked = tt; apart = tt }
      by false e (q ∷ qs) long k = let some = some-text (rest_of p.first) (sym e) in chunks-alone q.seats qs (omega (arith, some, long)) k.1

  -- ---- sections
  abbrev IsFit : Section → Type 0
  IsFit s = IsBlankAsText s.part.first × IsSound s.part s.inside

  section-alone : (s : Section) → IsFit s → StandAlone (section_marks bytes s)
  section-alone s h =
      let r = s.part.first in
      let went = take (length s.part.stands) r.went_on in
      let left = drop (columns_of r.went_on) r.line in
      both (prefixes_marks bytes went r.line) _ (plain _ (plain_prefixes bytes went r.line)) (both (begun_all bytes r.begun left) _ (plain _ (plain_begun bytes r.begun left)) (inside-alone s.part s.inside h.0 h.1))

  exits-alone : (fs : List Frame) (p : Point) → StandAlone (exits bytes fs p)
  exits-alone fs p = plain (exits bytes fs p) (plain_map (λ (f : Frame). event bytes Exit f.name p) (reverse fs))

  ending-alone : (p : Part) → StandAlone (ending_marks bytes p)
  ending-alone p = by (is_held p)
    where
      by : (b : Bool) → StandAlone (cond b [] (leaf_marks bytes (cond (p.first.is_blank) name.BlankLineEnding name.LineEnding) (ending_of (last_line bytes p))))
      by true = record { linked = tt; apart = tt }
      by false = plain-leaf (cond (p.first.is_blank) name.BlankLineEnding name.LineEnding) (ending_of (last_line bytes p))

  behind-alone : (p : Part) (ss : List Section) → AllByRecursion IsFit ss → StandAlone (behind_marks bytes p ss)
  behind-alone p [] h = both (exits bytes p.frames (end_of bytes p)) _ (exits-alone p.frames (end_of bytes p)) (ending-alone p)
  behind-alone p (next ∷ more) h =
      let ended = drop (shared p.frames next.part.frames) p.frames in
      both (exits bytes ended (end_of bytes p)) _ (exits-alone ended (end_of bytes p)) (both (ending_marks bytes p) _ (ending-alone p) (both (section_marks bytes next) _ (section-alone next h.0) (behind-alone next.part more h.1)))

  sections-alone : (ss : List Section) → AllByRecursion IsFit ss → StandAlone (sections_marks bytes ss)
  sections-alone [] h = record { linked = tt; apart = tt }
  sections-alone (s ∷ ss) h = both (section_marks bytes s) _ (section-alone s h.0) (behind-alone s.part ss h.1)

  -- ---- a document
  blank-rows : (on : Constructs) (k : Known) (number : ℕ) (ls : List Line) → AllByRecursion IsBlankAsText (rows_from on k number ls)
  blank-rows on k number [] = tt
  blank-rows on k number (line ∷ ls) = (refl, blank-rows on (known_after on k (row_of on k number line)) (suc number) ls)

  fit : (ss : List Section) → AllByRecursion (λ (s : Section). IsBlankAsText s.part.first × AllByRecursion IsBlankAsText s.part.more) ss → AreSound ss → AllByRecursion IsFit ss
  fit [] h k = tt
  fit (s ∷ ss) h k = ((h.0.0, k.0), fit ss h.1 k.1)

  pub document-alone : (on : Constructs) (ls : List Line) → StandAlone (sections_marks bytes (sections on (rows on ls)))
  document-alone on ls =
      let all = rows on ls in
      sections-alone (sections on all) (fit (sections on all) (in-sections IsBlankAsText on all (blank-rows on (known_at_start on) 1 ls)) (document-sound on ls))
