-- The leaf blocks in the place of a document's chunks, where its skeleton is those of its parts, or a stretch of lines goes on over the rest.
use Rattle.std.proofs.Common.{Bool, List, None, Option, Some, [], ap, append_assoc, arith, cond, false, length, map, refl, subst, suc, sym, true, ℕ, ◌++◌, ◌+◌, ◌-◌, ◌<◌, ◌∙◌, ◌∷◌, ◌≡◌, ◌≤◌}
use Rattle.std.proofs.lemmas.Option.{none-some}
use Rattle.std.specs.List.{AllByRecursion, flat_map}
use Rattle.markdown_base.proofs.Common.{every-append, every-filter}
use Rattle.markdown_base.specs.Virtual.{Seat, virtual}
use Rattle.markdown_base.specs.declared.configuration.Constructs.{Constructs}
use Rattle.markdown_base.specs.declared.configuration.ParseOptions.{ParseOptions}
use Rattle.markdown_base.specs.declared.event.Content.{Content}
use Rattle.markdown_base.specs.declared.event.Content.TheVariants as content
use Rattle.markdown_base.specs.declared.event.Event.{Event}
use Rattle.markdown_tokenizer.specs.Text.{Given, IsDocument}
use Rattle.markdown_children.proofs.ChainOrder.Forward.{ends-inside}
use Rattle.markdown_children.specs.Chains.{chain_of}
use Rattle.markdown_children.specs.Reads.{text_from}
use Rattle.markdown_children.specs.Ready.{IsReady}
use Rattle.mdconstructs_machines.specs.LineEvents.{lines_in}
use Rattle.mdinline_text_machine.proofs.DeepSpans.Chunks.{chunk_seats}
use Rattle.mdblock_leaf_blocks.proofs.Marks.LeafSpans.{leaf-blocks-keep}
use Rattle.mdblock_leaf_blocks.proofs.Marks.MarkLists.{linked-append, linked-length}
use Rattle.mdblock_leaf_blocks.specs.LeafBlocks.{leaf_blocks}
use Rattle.mdblock_leaf_blocks.specs.LeafEvents.{Mark, flow_events, leaf_blocks_marks, linked_from}
use Rattle.mdblock_containers.specs.Letters.{lettered_seat, with_letters}
use Rattle.mdblock_definitions.proofs.PlainLetters.{letters-are-plain}
use Rattle.mdblock_definitions.specs.Blocks.{document_blocks, document_skeleton, shown_as_text}
use Rattle.mdblock_definitions.specs.Skeleton.{letters}
use Rattle.mddocument.proofs.FlowTexts.Segments.{HasByte}
use Rattle.mddocument.proofs.InContainers.Blocks.{shown-is, skeleton-ready}
use Rattle.mddocument.proofs.InContainers.Skeletons.{skeleton-laws}
use Rattle.mddocument.specs.Documents.{document}
use Rattle.mddocument_parts.proofs.BlocksJoin.{AreWhole, behind, blocks_in, joined-blocks, lone_chunk, between_places, lone-leaves, text-lettered}
use Rattle.mddocument_parts.proofs.Chained.{AreBare, further_on, no-link-bare}
use Rattle.mddocument_parts.proofs.ChildrenOfBoth.{ready-forward}
use Rattle.mddocument_parts.proofs.DocumentParts.{behind-document, front-document}
use Rattle.mddocument_parts.proofs.Events.{flow-behind, flow-front, full-lines, in-blocks}
use Rattle.mddocument_parts.proofs.FlowLinks.{flow-inside}
use Rattle.mddocument_parts.proofs.LetteredBoth.{lettered-many, shown-begins, shown-both}
use Rattle.mddocument_parts.proofs.Links.{LinkBack, back-both, back-more, blocks-link-back}
use Rattle.mddocument_parts.proofs.TextsOfBoth.{EndUpTo, chains-read-both, document-of-both, ready-up-to, with_chains_read, IsDocumentOfBoth, seats-of}
use Rattle.mddocument_parts.proofs.Shown.{within}
use Rattle.mddocument_parts.proofs.WithoutContainers.CutOff.{IsPlain}
use Rattle.mddocument_parts.proofs.WithoutContainers.OneChild.{IsFresh}
use Rattle.mddocument_parts.proofs.WithoutContainers.Whole.{chained-plain, fresh-kept, none-read}
use Rattle.mddocument_parts.specs.BothDocuments.{is_rest}
use Rattle.mddocument_parts.specs.Moved.{line_endings, moved_event, moved_index, moved_link, moved_seat}

-- ==== The leaf blocks of the chains of a document's skeleton, where the skeleton is those of its parts: they are those of the parts.
-- ---- what holds of each virtual byte of a document holds of those of a text
every-chunk : (P : Seat → Type 0) (g : Given) (events : List Event) (ks : List ℕ) → AllByRecursion P (virtual g.tab g.bytes) → AllByRecursion P (flat_map (chunk_seats g events) ks)
every-chunk P g events [] h = tt
every-chunk P g events (k ∷ ks) h = every-append P (chunk_seats g events k) (flat_map (chunk_seats g events) ks) (every-filter P _ (virtual g.tab g.bytes) h) (every-chunk P g events ks h)

pub every-text : (P : Seat → Type 0) (g : Given) (events : List Event) (c : ℕ) → AllByRecursion P (virtual g.tab g.bytes) → AllByRecursion P (text_from g events c).seats
every-text P g events c h = subst (AllByRecursion P) (sym (seats-of g events (chain_of events c))) (every-chunk P g events (chain_of events c) h)

-- the blocks of bytes that are a document, as they are read of it with letters
abbrev pub lettered_blocks : ParseOptions → (bytes : List ℕ) → List Event
lettered_blocks options bytes = document_blocks (document options bytes)

module _ (options : ParseOptions) (a b : List ℕ) (is : IsDocument (document options (a ++ b))) (rest : is_rest options a b ≡ true) where
  abbrev on : Constructs
  on = options.constructs

  abbrev t : ℕ
  t = options.tab_size

  -- the parts as leaf blocks are read of them
  abbrev shown_first : List ℕ
  shown_first = with_letters (letters on (virtual t a)) a

  abbrev shown_second : List ℕ
  shown_second = with_letters (letters on (virtual t b)) b

  abbrev pub whole : Given
  whole = shown_as_text (document options (a ++ b))

  abbrev first : Given
  first = shown_as_text (document options a)

  abbrev second : Given
  second = shown_as_text (document options b)

  bytes-are : whole.bytes ≡ shown_first ++ shown_second
  bytes-are = shown-both on t a b rest

  size : length shown_first ≡ length a
  size = (lettered-many (letters on (virtual t a)) 0 a (letters-are-plain on t a)).long

  endings : line_endings shown_first ≡ line_endings a
  endings = (lettered-many (letters on (virtual t a)) 0 a (letters-are-plain on t a)).endings

  of-both : IsDocumentOfBoth (line_endings a) (length a) whole first second
  of-both =
      let both : Given = record { bytes = shown_first ++ shown_second; options = options; tab = t } in
      let same : both ≡ whole = ap (λ (bytes : List ℕ). let g : Given = record { bytes = bytes; options = options; tab = t } in g) (sym bytes-are) in
      subst (λ (g : Given). IsDocumentOfBoth (line_endings a) (length a) g first second) same
      (subst (λ (l : ℕ). IsDocumentOfBoth l (length a) both first second) endings
      (subst (λ (n : ℕ). IsDocumentOfBoth (line_endings shown_first) n both first second) size (document-of-both t shown_first shown_second options options options (shown-begins on t a b rest))))

  -- ---- leaf blocks of a text in a part
  same-first : (seats : List Seat) → AllByRecursion (λ s. (s.point.index ≤ length shown_first) × (s.end.index ≤ length shown_first)) seats → flow_events on whole.bytes seats ≡ flow_events on first.bytes seats
  same-first seats inside = ap (λ bytes. flow_events on bytes seats) bytes-are ∙ flow-front shown_first shown_second (shown-begins on t a b rest) on seats inside

  moved-second : (seats : List Seat) → flow_events on whole.bytes (map (moved_seat (line_endings a) (length a)) seats) ≡ map (moved_event (line_endings a) (length a) 0) (flow_events on second.bytes seats)
  moved-second seats =
      (λ i. flow_events on (bytes-are i) (map (moved_seat (sym endings i) (sym size i)) seats))
      ∙ flow-behind shown_first shown_second (shown-begins on t a b rest) on seats
      ∙ (λ i. map (moved_event (endings i) (size i) 0) (flow_events on second.bytes seats))

  -- ---- the chains of the skeletons
  abbrev wanted : Option Content
  wanted = Some content.Content

  abbrev skeleton_first : List Event
  skeleton_first = document_skeleton (document options a)

  abbrev skeleton_second : List Event
  skeleton_second = document_skeleton (document options b)

  ready-first : IsReady t shown_first wanted skeleton_first
  ready-first = skeleton-ready skeleton-laws (document options a) (front-document options a b is)

  ready-second : IsReady t shown_second wanted skeleton_second
  ready-second = skeleton-ready skeleton-laws (document options b) (behind-document options a b is)

  end-first : EndUpTo wanted (length a) skeleton_first
  end-first = let tab = is.tab.0 in subst (λ (n : ℕ). EndUpTo wanted n skeleton_first) size (ready-up-to t shown_first wanted skeleton_first ready-first (omega (arith, tab)))

  -- The leaf blocks of both skeletons, one behind the other, are the blocks of both
  pub blocks-apart : let blocks = lettered_blocks options a in
      with_chains_read wanted whole (flow_events on whole.bytes) (skeleton_first ++ map (moved_event (line_endings a) (length a) (length skeleton_first)) skeleton_second)
      ≡ blocks ++ map (moved_event (line_endings a) (length a) (length blocks)) (lettered_blocks options b)
  blocks-apart =
      chains-read-both wanted (line_endings a) (length a) whole first second skeleton_first skeleton_second (flow_events on whole.bytes) (flow_events on first.bytes) (flow_events on second.bytes) of-both
      (ready-forward t shown_first wanted skeleton_first ready-first) (ready-forward t shown_second wanted skeleton_second ready-second) (ends-inside t shown_first wanted skeleton_first ready-first) end-first
      (λ c begins. same-first (text_from first skeleton_first c).seats (every-text _ first skeleton_first c (within t (length shown_first) shown_first 1 1 0 (omega arith))))
      (λ c begins. moved-second (text_from second skeleton_second c).seats)

-- ==== A document in which a stretch of lines goes on over a rest: with the leaf blocks of its chunk it is as with those of the chunks of its parts.
-- ---- marks of leaf blocks behind others: links lead further
linked-further : (k i j : ℕ) (marks : List Mark) → j ≡ i + k → LinkBack i marks → AreBare marks → linked_from j marks ≡ map (further_on k) (linked_from i marks)
linked-further k i j [] e h f = refl
linked-further k i j ((v, None) ∷ marks) e h f =
    let here : v ≡ further_on k v = (λ d. record v { link = (f.0 ∙ ap (moved_link k) (sym f.0)) d }) in
    let rest = linked-further k (i + 1) (j + 1) marks (omega (arith, e)) (back-more (suc i) (i + 1) marks (omega arith) h) f.1 in
    (λ d. here d ∷ rest d)
linked-further k i j ((v, Some chunk) ∷ marks) e h f =
    let before = previous chunk.has_previous h.0 in
    let after = next chunk.has_next in
    let rest = linked-further k (i + 1) (j + 1) marks (omega (arith, e)) (back-more (suc i) (i + 1) marks (omega arith) h.1) f in
    (λ d. (let w : Event = record v { link = Some (record { previous = before d; next = after d; content = chunk.content }) } in w) ∷ rest d)
  where
    previous : (b : Bool) → (b ≡ true → 2 ≤ i) → cond b (Some (j - 2)) None ≡ moved_index k (cond b (Some (i - 2)) None)
    previous true h = let few = h refl in let same : j - 2 ≡ i - 2 + k = omega (arith, few, e) in ap (λ n. Some n) same
    previous false h = refl

    next : (b : Bool) → cond b (Some (j + 2)) None ≡ moved_index k (cond b (Some (i + 2)) None)
    next true = let same : j + 2 ≡ i + 2 + k = omega (arith, e) in ap (λ n. Some n) same
    next false = refl

linked-behind : (xs ys : List Mark) → LinkBack 0 ys → AreBare ys → linked_from 0 (xs ++ ys) ≡ behind (linked_from 0 xs) (linked_from 0 ys)
linked-behind xs ys h f =
    let size = linked-length 0 xs in
    linked-append 0 xs ys ∙ ap (λ l. linked_from 0 xs ++ l) (linked-further (length (linked_from 0 xs)) 0 (0 + length xs) ys (omega (arith, size)) h f)

plain-back : (i : ℕ) (ms : List Mark) → AllByRecursion IsPlain ms → LinkBack i ms
plain-back i [] h = tt
plain-back i ((e, None) ∷ ms) h = plain-back (suc i) ms h.1
plain-back i ((e, Some chunk) ∷ ms) h = absurd (none-some chunk (sym h.0.0))

plain-bare : (ms : List Mark) → AllByRecursion IsPlain ms → AreBare ms
plain-bare [] h = tt
plain-bare ((e, None) ∷ ms) h = (h.0.1, plain-bare ms h.1)
plain-bare ((e, Some chunk) ∷ ms) h = absurd (none-some chunk (sym h.0.0))

bare-both : (xs ys : List Mark) → AreBare xs → AreBare ys → AreBare (xs ++ ys)
bare-both [] ys h k = k
bare-both ((e, None) ∷ xs) ys h k = (h.0, bare-both xs ys h.1 k)
bare-both ((e, Some chunk) ∷ xs) ys h k = bare-both xs ys h k

-- ---- chunks of a document
module _ (options : ParseOptions) (bytes : List ℕ) (is : IsDocument (document options bytes)) where
  abbrev chosen : Constructs
  chosen = options.constructs

  abbrev tab_size : ℕ
  tab_size = options.tab_size

  -- where letters stand, and the document with them
  abbrev at : List ℕ
  at = letters chosen (virtual tab_size bytes)

  abbrev pub shown : Given
  shown = shown_as_text (document options bytes)

  abbrev pub reads : List Seat → List Event
  reads seats = flow_events chosen shown.bytes seats

  abbrev pub leaves : List Mark → List Event
  leaves ms = blocks_in shown reads ms

  abbrev pub with_letter : List Seat → List Seat
  with_letter seats = map (lettered_seat at) seats

  abbrev pub marks_of_seats : List Seat → List Mark
  marks_of_seats seats = leaf_blocks_marks shown.bytes (leaf_blocks chosen (lines_in seats))

  some : 0 < tab_size
  some = let tab = is.tab.0 in omega (arith, tab)

  chunk-leaves : (before : List Seat) (s : Seat) (ss after : List Seat) → virtual tab_size bytes ≡ before ++ ((s ∷ ss) ++ after) → leaves (lone_chunk bytes (s ∷ ss)) ≡ reads (with_letter (s ∷ ss))
  chunk-leaves before s ss after whole =
      lone-leaves bytes shown reads s ss (flow-inside chosen shown.bytes (between_places bytes shown reads s ss))
      ∙ ap reads (text-lettered tab_size some at bytes (letters-are-plain chosen tab_size bytes) before s ss after whole)

  plain-leaves : (ms : List Mark) → AllByRecursion IsPlain ms → leaves ms ≡ linked_from 0 ms
  plain-leaves ms h = ap (with_chains_read (Some content.Content) shown reads) (chained-plain 0 0 None ms h) ∙ none-read shown (shown-is skeleton-laws (document options bytes) is) ms h

  seats-back : (seats : List Seat) → LinkBack 0 (marks_of_seats seats)
  seats-back seats = (blocks-link-back shown.bytes (leaf_blocks chosen (lines_in seats)) (in-blocks HasByte chosen (lines_in seats) (full-lines seats))).links

  seats-bare : (seats : List Seat) → AreBare (marks_of_seats seats)
  seats-bare seats = no-link-bare (marks_of_seats seats) (leaf-blocks-keep chosen shown.bytes (λ marks seats. AllByRecursion IsFresh marks) (fresh-kept shown.bytes) seats)

  module _ (before : List Seat) (s : Seat) (ss middle : List Seat) (u : Seat) (us after : List Seat) (between : List Mark)
      (whole : virtual tab_size bytes ≡ before ++ ((s ∷ ss) ++ (middle ++ ((u ∷ us) ++ after)))) (plain : AllByRecursion IsPlain between)
      (split : marks_of_seats (with_letter ((s ∷ ss) ++ (middle ++ (u ∷ us)))) ≡ marks_of_seats (with_letter (s ∷ ss)) ++ (between ++ marks_of_seats (with_letter (u ∷ us)))) where
    abbrev pub all : List Seat
    all = (s ∷ ss) ++ (middle ++ (u ∷ us))

    same : leaves (lone_chunk bytes all) ≡ behind (leaves (lone_chunk bytes (s ∷ ss))) (behind (leaves between) (leaves (lone_chunk bytes (u ∷ us))))
    same =
        let one = marks_of_seats (with_letter (s ∷ ss)) in
        let two = marks_of_seats (with_letter (u ∷ us)) in
        let back = seats-back (with_letter (u ∷ us)) in
        let bare = seats-bare (with_letter (u ∷ us)) in
        let joined : (s ∷ ss) ++ (middle ++ ((u ∷ us) ++ after)) ≡ all ++ after = ap (λ l. (s ∷ ss) ++ l) (sym (append_assoc middle (u ∷ us) after)) ∙ sym (append_assoc (s ∷ ss) (middle ++ (u ∷ us)) after) in
        let behind_first : before ++ ((s ∷ ss) ++ (middle ++ ((u ∷ us) ++ after))) ≡ (before ++ ((s ∷ ss) ++ middle)) ++ ((u ∷ us) ++ after) =
        ap (λ l. before ++ l) (sym (append_assoc (s ∷ ss) middle ((u ∷ us) ++ after))) ∙ sym (append_assoc before ((s ∷ ss) ++ middle) ((u ∷ us) ++ after)) in
        let first = chunk-leaves before s ss (middle ++ ((u ∷ us) ++ after)) whole in
        let second = chunk-leaves (before ++ ((s ∷ ss) ++ middle)) u us after (whole ∙ behind_first) in
        let third = plain-leaves between plain in
        chunk-leaves before s (ss ++ (middle ++ (u ∷ us))) after (whole ∙ ap (λ l. before ++ l) joined)
        ∙ ap (linked_from 0) split
        ∙ linked-behind one (between ++ two) (back-both 0 between two (plain-back 0 between plain) back) (bare-both between two (plain-bare between plain) bare)
        ∙ ap (behind (linked_from 0 one)) (linked-behind between two back bare)
        ∙ (λ i. behind (sym first i) (behind (sym third i) (sym second i)))

    pub joined-leaves : (front back : List Mark) → AreWhole (front ++ (lone_chunk bytes (s ∷ ss) ++ between)) → AreWhole (lone_chunk bytes (u ∷ us) ++ back)
        → leaves (front ++ (lone_chunk bytes all ++ back)) ≡ leaves ((front ++ (lone_chunk bytes (s ∷ ss) ++ between)) ++ (lone_chunk bytes (u ∷ us) ++ back))
    joined-leaves front back first second = joined-blocks bytes shown reads front between back s u ss us all first second same
