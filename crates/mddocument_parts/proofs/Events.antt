-- The events of leaf blocks of a document are those of its parts.
use Rattle.mddocument_parts.proofs.Prelude.{◌≡◌, ℕ, ◌+◌, ◌≤◌, List, [], ◌∷◌, ◌++◌, Bool, true, false, cond, length, refl, sym, ap, ◌∙◌, subst, arith, map, AllByRecursion, flat_map, flat_map-append, and-left, Constructs, linked-append, linked-length, Line, LeafBlock, blank_line, break_line, atx_heading, paragraph, setext_heading, indented_code, fenced_code, html_block, leaf_blocks, leaf_block_marks, leaf_blocks_marks, flow_events, linked_from, is_line_ending, joined, lines_in, EventsOfBoth, begins_line, first_at_rest, line_endings, moved_block, moved_event, moved_link, moved_point, moved_seat, block_lines, Seat, virtual, leaf-blocks-lines}
use Rattle.markdown_tokenizer.proofs.Positions.Order.{every-back, every-front}
use Rattle.mddocument.proofs.FlowTexts.Segments.{HasByte}
use Rattle.mddocument_parts.proofs.Both.{blocks-of-both}
use Rattle.mddocument_parts.proofs.Links.{blocks-link-back, linked-moved}
use Rattle.mddocument_parts.proofs.MovedBlocks.{blocks-move}
use Rattle.mddocument_parts.proofs.MovedMarks.{blocks-marks-moved, mb}
use Rattle.mddocument_parts.proofs.Shown.{line-untorn, shown-behind, shown-front, within}
use Rattle.mddocument_parts.proofs.Virtual.{lines-moved}

pub map-same : {X : Type 0} (f : X → X) → ((x : X) → f x ≡ x) → (xs : List X) → map f xs ≡ xs
map-same f h [] = refl
map-same f h (x ∷ xs) = let e = h x in let r = map-same f h xs in (λ i. e i ∷ r i)

-- ---- what holds of each line, or each virtual byte, of a document

module _ (P : Line → Type 0) where
  of-blocks : (blocks : List LeafBlock) → AllByRecursion P (flat_map block_lines blocks) → AllByRecursion (λ b. AllByRecursion P (block_lines b)) blocks
  of-blocks [] h = tt
  of-blocks (b ∷ blocks) h = (every-front P (block_lines b) (flat_map block_lines blocks) h, of-blocks blocks (every-back P (block_lines b) (flat_map block_lines blocks) h))

  pub in-blocks : (on : Constructs) (lines : List Line) → AllByRecursion P lines → AllByRecursion (λ b. AllByRecursion P (block_lines b)) (leaf_blocks on lines)
  in-blocks on lines h = of-blocks (leaf_blocks on lines) (subst (AllByRecursion P) (sym (leaf-blocks-lines on lines)) h)

module _ (Q : Seat → Type 0) where
  abbrev OfSeats : List Seat → Type 0
  OfSeats seats = AllByRecursion Q seats

  in-joined : (s : Seat) (lines : List Line) → Q s → AllByRecursion OfSeats lines → AllByRecursion OfSeats (joined s lines)
  in-joined s [] h k = ((h, tt), tt)
  in-joined s (line ∷ lines) h k = ((h, k.0), k.1)

  pub in-lines : (seats : List Seat) → AllByRecursion Q seats → AllByRecursion OfSeats (lines_in seats)
  in-lines [] h = tt
  in-lines (s ∷ ss) h = by (is_line_ending s) (in-lines ss h.1)
    where
      by : (c : Bool) → AllByRecursion OfSeats (lines_in ss) → AllByRecursion OfSeats (cond c ((s ∷ []) ∷ lines_in ss) (joined s (lines_in ss)))
      by true k = ((h.0, tt), k)
      by false k = in-joined s (lines_in ss) h.0 k

full-joined : (s : Seat) (lines : List Line) → AllByRecursion HasByte lines → AllByRecursion HasByte (joined s lines)
full-joined s [] k = (tt, tt)
full-joined s (line ∷ lines) k = (tt, k.1)

pub full-lines : (seats : List Seat) → AllByRecursion HasByte (lines_in seats)
full-lines [] = tt
full-lines (s ∷ ss) = by (is_line_ending s) (full-lines ss)
  where
    by : (c : Bool) → AllByRecursion HasByte (lines_in ss) → AllByRecursion HasByte (cond c ((s ∷ []) ∷ lines_in ss) (joined s (lines_in ss)))
    by true k = (tt, k)
    by false k = full-joined s (lines_in ss) k

-- no place is unknown
pub all-known : (seats : List Seat) → AllByRecursion (λ s. Unit {0} × Unit {0}) seats
all-known [] = tt
all-known (s ∷ ss) = ((tt, tt), all-known ss)

-- ---- marks of both

pub same-line : (line : Line) → map (λ (s : Seat). s) line ≡ line
same-line line = map-same (λ s. s) (λ s. refl) line

same-lines : (lines : List Line) → map (λ (line : Line). map (λ (s : Seat). s) line) lines ≡ lines
same-lines lines = map-same (λ line. map (λ s. s) line) same-line lines

pub map-ext : {X Y : Type 0} (f g : X → Y) → ((x : X) → f x ≡ g x) → (xs : List X) → map f xs ≡ map g xs
map-ext f g h [] = refl
map-ext f g h (x ∷ xs) = let e = h x in let r = map-ext f g h xs in (λ i. e i ∷ r i)

module _ (a b : List ℕ) (h : begins_line b a ≡ true) where
  -- the first part, as it is
  abbrev pub stays : LeafBlock → LeafBlock
  stays block = mb a (a ++ b) (λ p. p) (λ l. l) refl (λ p. p.index ≤ length a) (λ p l. shown-front a b (line-untorn a b h) p l) block

  pub block-stays : (block : LeafBlock) → stays block ≡ block
  block-stays (blank_line line) = ap blank_line (same-line line)
  block-stays (break_line line) = ap break_line (same-line line)
  block-stays (atx_heading line) = ap atx_heading (same-line line)
  block-stays (paragraph lines) = ap paragraph (same-lines lines)
  block-stays (setext_heading rank lines below) = let l = same-lines lines in let u = same-line below in (λ i. setext_heading rank (l i) (u i))
  block-stays (indented_code lines) = ap indented_code (same-lines lines)
  block-stays (fenced_code f is_closed lines) = ap (fenced_code f is_closed) (same-lines lines)
  block-stays (html_block kind is_closed lines) = ap (html_block kind is_closed) (same-lines lines)

  -- the second part, moved
  module _ (k : ℕ) where
    abbrev pub goes : LeafBlock → LeafBlock
    goes block = mb b (a ++ b) (moved_point (line_endings a) (length a)) (moved_link k) refl (λ p. Unit {0}) (λ p l. shown-behind a b (line-untorn a b h) (line_endings a) p) block

    pub block-goes : (block : LeafBlock) → moved_block (line_endings a) (length a) block ≡ goes block
    block-goes (blank_line line) = refl
    block-goes block = refl

  module _ (on : Constructs) where
    -- virtual bytes inside the first bytes
    front-marks : (seats : List Seat) → AllByRecursion (λ s. (s.point.index ≤ length a) × (s.end.index ≤ length a)) seats → leaf_blocks_marks (a ++ b) (leaf_blocks on (lines_in seats)) ≡ leaf_blocks_marks a (leaf_blocks on (lines_in seats))
    front-marks seats inside =
        let blocks = leaf_blocks on (lines_in seats) in
        let known = in-blocks _ on (lines_in seats) (in-lines _ seats inside) in
        sym (ap (leaf_blocks_marks (a ++ b)) (map-same stays block-stays blocks))
        ∙ blocks-marks-moved a (a ++ b) (λ p. p) (λ l. l) refl (λ p. p.index ≤ length a) (λ p l. shown-front a b (line-untorn a b h) p l) blocks known
        ∙ map-same (λ m. m) (λ m. refl) (leaf_blocks_marks a blocks)

    -- virtual bytes of the second, moved
    behind-marks : (k : ℕ) (seats : List Seat) → leaf_blocks_marks (a ++ b) (map (moved_block (line_endings a) (length a)) (leaf_blocks on (lines_in seats)))
        ≡ map (λ m. (moved_event (line_endings a) (length a) k m.0, m.1)) (leaf_blocks_marks b (leaf_blocks on (lines_in seats)))
    behind-marks k seats =
        let blocks = leaf_blocks on (lines_in seats) in
        let known = in-blocks _ on (lines_in seats) (in-lines _ seats (all-known seats)) in
        ap (leaf_blocks_marks (a ++ b)) (map-ext (moved_block (line_endings a) (length a)) (goes k) (block-goes k) blocks)
        ∙ blocks-marks-moved b (a ++ b) (moved_point (line_endings a) (length a)) (moved_link k) refl (λ p. Unit {0}) (λ p l. shown-behind a b (line-untorn a b h) (line_endings a) p) blocks known

    -- the events of leaf blocks of such virtual bytes
    pub flow-front : (seats : List Seat) → AllByRecursion (λ s. (s.point.index ≤ length a) × (s.end.index ≤ length a)) seats → flow_events on (a ++ b) seats ≡ flow_events on a seats
    flow-front seats inside = ap (linked_from 0) (front-marks seats inside)

    pub flow-behind : (seats : List Seat) → flow_events on (a ++ b) (map (moved_seat (line_endings a) (length a)) seats) ≡ map (moved_event (line_endings a) (length a) 0) (flow_events on b seats)
    flow-behind seats =
        let l = line_endings a in
        let n = length a in
        let marks = leaf_blocks_marks b (leaf_blocks on (lines_in seats)) in
        let back = (blocks-link-back b (leaf_blocks on (lines_in seats)) (in-blocks HasByte on (lines_in seats) (full-lines seats))).links in
        ap (λ ls. linked_from 0 (leaf_blocks_marks (a ++ b) (leaf_blocks on ls))) (lines-moved l n seats)
        ∙ ap (λ blocks. linked_from 0 (leaf_blocks_marks (a ++ b) blocks)) (blocks-move on l n (lines_in seats))
        ∙ ap (linked_from 0) (behind-marks 0 seats) ∙ linked-moved l n 0 marks 0 0 (omega arith) back

pub events-of-both : EventsOfBoth
events-of-both on t a b h =
    let l = line_endings a in
    let n = length a in
    let torn : begins_line b a ≡ true = and-left (begins_line b a) (first_at_rest on (lines_in (virtual t a)) (lines_in (virtual t b))) h in
    let first_blocks = leaf_blocks on (lines_in (virtual t a)) in
    let blocks = leaf_blocks on (lines_in (virtual t b)) in
    let first = leaf_blocks_marks a first_blocks in
    let marks = leaf_blocks_marks b blocks in
    let k = length (linked_from 0 first) in
    let same : 0 + length first ≡ 0 + k = omega (arith, linked-length 0 first) in
    let back = (blocks-link-back b blocks (in-blocks HasByte on (lines_in (virtual t b)) (full-lines (virtual t b)))).links in
    ap (λ bs. linked_from 0 (leaf_blocks_marks (a ++ b) bs)) (blocks-of-both on t a b h)
    ∙ ap (linked_from 0) (flat_map-append (leaf_block_marks (a ++ b)) first_blocks (map (moved_block l n) blocks))
    ∙ (let f = front-marks a b torn on (virtual t a) (within t (length a) a 1 1 0 (omega arith)) in let g = behind-marks a b torn on k (virtual t b) in (λ i. linked_from 0 (f i ++ g i)))
    ∙ linked-append 0 first (map (λ m. (moved_event l n k m.0, m.1)) marks)
    ∙ ap (λ r. linked_from 0 first ++ r) (linked-moved l n k marks 0 (0 + length first) same back)
