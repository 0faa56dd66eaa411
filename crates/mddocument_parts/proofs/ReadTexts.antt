-- Documents whose texts are read, too.
use Rattle.mddocument_parts.proofs.Prelude.{◌≡◌, ℕ, ◌+◌, ◌≤◌, List, [], ◌∷◌, ◌++◌, true, length, refl, sym, ap, ◌∙◌, arith, None, map, flat_map, flat_map-append, and-left, Constructs, Event, block_texts, read_marks, linked-append, linked-length, leaf_blocks, Mark, body, linked_from, lines_in, begins_line, first_at_rest, line_endings, moved_block, moved_event, moved_link, moved_point, ReadEventsOfBoth, ReadsMove, Seat, virtual}
use Rattle.mddocument.proofs.FlowTexts.Segments.{HasByte}
use Rattle.mddocument_parts.proofs.Both.{blocks-of-both}
use Rattle.mddocument_parts.proofs.Events.{all-known, block-goes, block-stays, full-lines, goes, in-blocks, in-lines, map-ext, map-same, same-line, stays}
use Rattle.mddocument_parts.proofs.Links.{Back, around-back, linked-moved, nothing, two}
use Rattle.mddocument_parts.proofs.MovedMarks.{Text, around-moved, text-bodies}
use Rattle.mddocument_parts.proofs.MovedReads.{inlines-move, strings-moved}
use Rattle.mddocument_parts.proofs.Shown.{line-untorn, shown-behind, shown-front, within}
use Rattle.mddocument_parts.proofs.TextLines.{AnySeat, any-blocks, lines-of-texts, text-blocks, virtual-texts}
use Rattle.mddocument_parts.specs.ReadTexts.{FlowInlinesOfBoth, StandsBefore}
use Rattle.mddocument.specs.FlowTexts.{inline_seat_events}
use Rattle.mdinline_machine.specs.InlineRules.{no_labels}
use Rattle.mdinline_constructs.specs.StringItems.{string_seat_events}

-- marks of events that begin no chunk
abbrev bare : List Event → List Mark
bare es = map (λ e. (e, None)) es

bare-back : (es : List Event) → Back (bare es)
bare-back [] = nothing
bare-back (e ∷ es) = two ((e, None) ∷ []) (bare es) (record { links = tt }) (bare-back es)

bare-moved : (l n k : ℕ) (es : List Event) → bare (map (moved_event l n k) es) ≡ map (λ m. (moved_event l n k m.0, m.1)) (bare es)
bare-moved l n k [] = refl
bare-moved l n k (e ∷ es) = ap (λ r. (moved_event l n k e, None) ∷ r) (bare-moved l n k es)

module _ (a b : List ℕ) (h : begins_line b a ≡ true) where
  abbrev PartFront : List Seat → List Seat → Type 0
  PartFront s r = Text a (a ++ b) (λ p. p) (λ l. l) refl (λ p. p.index ≤ length a) (λ p l. shown-front a b (line-untorn a b h) p l) (StandsBefore (length a)) s r

  abbrev PartBehind : (k : ℕ) → List Seat → List Seat → Type 0
  PartBehind k s r = Text b (a ++ b) (moved_point (line_endings a) (length a)) (moved_link k) refl (λ p. Unit {0}) (λ p l. shown-behind a b (line-untorn a b h) (line_endings a) p) AnySeat s r

  module _ (reads : List ℕ → List Seat → List Event) (move : ReadsMove reads) where
    reads-front : (s r : List Seat) → PartFront s r → bare (reads (a ++ b) s) ≡ map (λ m. m) (bare (reads a r))
    reads-front s r p = ap (λ s. bare (reads (a ++ b) s)) (p.part.is ∙ same-line r) ∙ ap bare ((move a b h).0 r p.inner) ∙ sym (map-same (λ m. m) (λ m. refl) (bare (reads a r)))

    reads-behind : (k : ℕ) (s r : List Seat) → PartBehind k s r → bare (reads (a ++ b) s) ≡ map (λ m. (moved_event (line_endings a) (length a) k m.0, m.1)) (bare (reads b r))
    reads-behind k s r p = ap (λ s. bare (reads (a ++ b) s)) p.part.is ∙ ap bare ((move a b h).1 (line_endings a) k r) ∙ bare-moved (line_endings a) (length a) k (reads b r)

  module _ (texts strings : List ℕ → List Seat → List Event) (move : ReadsMove texts) (move_strings : ReadsMove strings) (on : Constructs) (t : ℕ) where
    front : flat_map (block_texts (texts (a ++ b)) (strings (a ++ b)) (a ++ b)) (leaf_blocks on (lines_in (virtual t a))) ≡ flat_map (block_texts (texts a) (strings a) a) (leaf_blocks on (lines_in (virtual t a)))
    front =
        let blocks = leaf_blocks on (lines_in (virtual t a)) in
        let known = in-blocks _ on (lines_in (virtual t a)) (in-lines _ (virtual t a) (within t (length a) a 1 1 0 (omega arith))) in
        let inner = text-blocks (StandsBefore (length a)) on (lines_in (virtual t a)) (lines-of-texts (StandsBefore (length a)) (virtual t a) (virtual-texts t (length a) b a 1 1 0 h (omega arith))) in
        sym (ap (flat_map (block_texts (texts (a ++ b)) (strings (a ++ b)) (a ++ b))) (map-same (stays a b h) (block-stays a b h) blocks))
        ∙ around-moved a (a ++ b) (λ p. p) (λ l. l) refl (λ p. p.index ≤ length a) (λ p l. shown-front a b (line-untorn a b h) p l) (StandsBefore (length a))
        (read_marks (texts (a ++ b)) (a ++ b)) (read_marks (texts a) a) (reads-front texts move)
        (λ lines. read_marks (texts (a ++ b)) (a ++ b) (body lines)) (λ lines. read_marks (texts a) a (body lines))
        (λ lines ok inner. reads-front texts move _ _ (text-bodies a (a ++ b) (λ p. p) (λ l. l) refl (λ p. p.index ≤ length a) (λ p l. shown-front a b (line-untorn a b h) p l) (StandsBefore (length a)) lines ok inner))
        (read_marks (strings (a ++ b)) (a ++ b)) (read_marks (strings a) a) (reads-front strings move_strings) blocks known inner
        ∙ map-same (λ m. m) (λ m. refl) (flat_map (block_texts (texts a) (strings a) a) blocks)

    behind : (k : ℕ) → flat_map (block_texts (texts (a ++ b)) (strings (a ++ b)) (a ++ b)) (map (moved_block (line_endings a) (length a)) (leaf_blocks on (lines_in (virtual t b))))
        ≡ map (λ m. (moved_event (line_endings a) (length a) k m.0, m.1)) (flat_map (block_texts (texts b) (strings b) b) (leaf_blocks on (lines_in (virtual t b))))
    behind k =
        let blocks = leaf_blocks on (lines_in (virtual t b)) in
        let known = in-blocks _ on (lines_in (virtual t b)) (in-lines _ (virtual t b) (all-known (virtual t b))) in
        ap (flat_map (block_texts (texts (a ++ b)) (strings (a ++ b)) (a ++ b))) (map-ext (moved_block (line_endings a) (length a)) (goes a b h k) (block-goes a b h k) blocks)
        ∙ around-moved b (a ++ b) (moved_point (line_endings a) (length a)) (moved_link k) refl (λ p. Unit {0}) (λ p l. shown-behind a b (line-untorn a b h) (line_endings a) p) AnySeat
        (read_marks (texts (a ++ b)) (a ++ b)) (read_marks (texts b) b) (reads-behind texts move k)
        (λ lines. read_marks (texts (a ++ b)) (a ++ b) (body lines)) (λ lines. read_marks (texts b) b (body lines))
        (λ lines ok inner. reads-behind texts move k _ _ (text-bodies b (a ++ b) (moved_point (line_endings a) (length a)) (moved_link k) refl (λ p. Unit {0}) (λ p l. shown-behind a b (line-untorn a b h) (line_endings a) p) AnySeat lines ok inner))
        (read_marks (strings (a ++ b)) (a ++ b)) (read_marks (strings b) b) (reads-behind strings move_strings k) blocks known (any-blocks blocks)

pub read-events-of-both : ReadEventsOfBoth
read-events-of-both texts strings move move_strings on t a b h =
    let l = line_endings a in
    let n = length a in
    let torn : begins_line b a ≡ true = and-left (begins_line b a) (first_at_rest on (lines_in (virtual t a)) (lines_in (virtual t b))) h in
    let first_blocks = leaf_blocks on (lines_in (virtual t a)) in
    let blocks = leaf_blocks on (lines_in (virtual t b)) in
    let whole = block_texts (texts (a ++ b)) (strings (a ++ b)) (a ++ b) in
    let first = flat_map (block_texts (texts a) (strings a) a) first_blocks in
    let marks = flat_map (block_texts (texts b) (strings b) b) blocks in
    let k = length (linked_from 0 first) in
    let same : 0 + length first ≡ 0 + k = omega (arith, linked-length 0 first) in
    let back = (around-back b (read_marks (texts b) b) (λ s. bare-back (texts b s)) (λ lines. read_marks (texts b) b (body lines)) (λ lines full. bare-back (texts b (body lines)))
    (read_marks (strings b) b) (λ s. bare-back (strings b s)) blocks (in-blocks HasByte on (lines_in (virtual t b)) (full-lines (virtual t b)))).links in
    ap (λ bs. linked_from 0 (flat_map whole bs)) (blocks-of-both on t a b h)
    ∙ ap (linked_from 0) (flat_map-append whole first_blocks (map (moved_block l n) blocks))
    ∙ (let f = front a b torn texts strings move move_strings on t in let g = behind a b torn texts strings move move_strings on t k in (λ i. linked_from 0 (f i ++ g i)))
    ∙ linked-append 0 first (map (λ m. (moved_event l n k m.0, m.1)) marks)
    ∙ ap (λ r. linked_from 0 first ++ r) (linked-moved l n k marks 0 (0 + length first) same back)

pub flow-inlines-of-both : FlowInlinesOfBoth
flow-inlines-of-both options =
    let on = options.constructs in
    read-events-of-both (inline_seat_events no_labels options) (string_seat_events on) (inlines-move no_labels options) (strings-moved on) on
