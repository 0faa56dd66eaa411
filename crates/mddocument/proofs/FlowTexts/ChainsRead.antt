use Rattle.mddocument.proofs.Prelude.{◌≡◌, ℕ, ◌+◌, ◌<◌, ◌≤◌, List, [], ◌∷◌, ◌++◌, false, Option, Some, None, length, map, refl, sym, ap, ◌∙◌, subst, arith, option_map, AllByRecursion, flat_map, every-append, relinked, with_ends, Content, Event, Link, Seat, untagged, chain_of, content_at, fitting_starts, chain_changes, child_changes, first_chunk, part_changes, with_children, divided_over, parts, text_of_chain, place_at, woven-pass, AreApart, Change, Tagged, placed, placed_end, placed_in, woven, HaveNoLinks, Given, chain-seats, chain_text, first-linked, mark_at, Mark, linked_from, Point, end_after, AcrossGap, Course, course-on, IsWhole}
-- A list whose marks are cut into segments over a text: with the texts of its chains it has the texts of its segments.
use Rattle.mddocument.proofs.FlowTexts.Chained.{two_for, indices, IsAt, starts_in, kept-at}
use Rattle.mddocument.proofs.FlowTexts.Changes.{after-texts, changes-apart, changes_of, kept-room, marks_of, starts-are, starts_of, texts_of}
use Rattle.mddocument.proofs.FlowTexts.Chunks.{chain-content, chain-is, chain-next, chain-room, chain-seats-are}
use Rattle.mddocument.proofs.FlowTexts.Segments.{Segment, kept, chain, IsKept, IsGood, HasByte, chain_marks, in_line, kept-events, seats_of}
use Rattle.mdblock_leaf_blocks.proofs.Marks.MarkLists.{linked-length}

-- ---- no link leads anywhere
-- link ends of the event do not change
abbrev IsSame : Event → Type 0
IsSame e = (f : ℕ → Option ℕ) → relinked f e ≡ e

same-kept : (wanted : Option Content) (i : ℕ) (m : Mark) → IsKept wanted m → IsSame (mark_at i m)
same-kept wanted i (e, None) h f = ap (λ (o : Option Link). record e { link = option_map (with_ends f) o }) h ∙ ap (λ (o : Option Link). record e { link = o }) (sym h)
same-kept wanted i (e, Some chunk) h f = rw (h.1, h.2) refl

all-same : (wanted : Option Content) (i : ℕ) (marks : List Mark) → AllByRecursion (IsKept wanted) marks → AllByRecursion IsSame (linked_from i marks)
all-same wanted i [] h = tt
all-same wanted i (m ∷ marks) h = subst (AllByRecursion IsSame) (sym (first-linked i m marks)) (same-kept wanted i m h.0, all-same wanted (i + 1) marks h.1)

-- so places change nothing
placed-same : (ts us : List Tagged) → AllByRecursion IsSame (untagged us) → placed_in ts us ≡ untagged us
placed-same ts [] h = refl
placed-same ts (u ∷ us) h = λ i. h.0 (placed_end ts u.identity) i ∷ placed-same ts us h.1 i

-- what the virtual bytes of a chain are read as: events without links
module _ (wanted : Option Content) (g : Given) (reads : Option Content → List Seat → List Event) (none : (of : Content) → reads (Some of) [] ≡ []) (alone : (of : Content) (seats : List Seat) → HaveNoLinks (reads (Some of) seats)) where
  -- what a chain is read as
  abbrev chain_read : List Event → ℕ → List Event
  chain_read events c = reads (content_at events c) (chain_text g events c).seats

  kept-read : (of : Content) (seats : List Seat) → AllByRecursion (IsKept wanted) (map (λ (e : Event). (e, None)) (reads (Some of) seats))
  kept-read of seats = kept-events wanted (reads (Some of) seats) (alone of seats)

  kept-texts : (events : List Event) (segments : List Segment) → AllByRecursion (IsGood wanted) segments → AllByRecursion (IsKept wanted) (texts_of wanted g reads events segments)
  kept-texts events [] good = tt
  kept-texts events (kept marks seats ∷ segments) good = every-append (IsKept wanted) marks (texts_of wanted g reads events segments) good.0 (kept-texts events segments good.1)
  kept-texts events (chain of cs ∷ segments) good = every-append (IsKept wanted) (map (λ (e : Event). (e, None)) (reads (Some of) (in_line cs))) (texts_of wanted g reads events segments) (kept-read of (in_line cs)) (kept-texts events segments good.1)

  -- ---- the changes
  few : (cs : List (List Seat)) → length cs ≤ two_for cs
  few [] = omega arith
  few (c ∷ cs) = omega (arith, few cs)

  module _ (some : 0 < g.tab) (events : List Event) where
    -- the changes of one chain
    abbrev changes_at : List ℕ → List Event → List Change
    changes_at ks child = part_changes (first_chunk ks) 0 ks (parts (map (λ k. place_at events (k + 1)) ks) child)

    one-chain : (of : Content) (i : ℕ) (c : List Seat) (cs : List (List Seat)) (rest : List Mark) → AllByRecursion HasByte (c ∷ cs) → AllByRecursion IsWhole (c ∷ cs) → IsAt events i (chain_marks of g.bytes false (c ∷ cs) ++ rest) → i ≤ length events
        → (o : Point) (more : List Seat) → Course AcrossGap g.tab g.bytes o (in_line (c ∷ cs) ++ more)
        → changes_at (chain_of events i) (chain_read events i) ≡ changes_at (indices i (c ∷ cs)) (reads (Some of) (in_line (c ∷ cs)))
    one-chain of i c cs rest h w at l o more course =
        let room = chain-room of g events i false (c ∷ cs) rest h at l in
        let less = few (c ∷ cs) in
        let are : chain_of events i ≡ indices i (c ∷ cs) = chain-is of g events (length events) i false c cs rest (omega (arith, room, less)) h at in
        let seats : (text_of_chain g events (chain_of events i)).seats ≡ in_line (c ∷ cs) =
        ap (λ (ks : List ℕ). (text_of_chain g events ks).seats) are ∙ chain-seats g events i (indices (i + 2) cs) ∙ chain-seats-are of g events some i false (c ∷ cs) rest h w at o more course in
        let content : content_at events i ≡ Some of = chain-content of g events i false c cs rest h at in
        λ j. changes_at (are j) (reads (content j) (seats j))

    changes-are : (i : ℕ) (segments : List Segment) → AllByRecursion (IsGood wanted) segments → IsAt events i (marks_of wanted g reads events segments) → i ≤ length events
        → (o : Point) → Course AcrossGap g.tab g.bytes o (flat_map seats_of segments)
        → flat_map chain_changes (divided_over events (starts_of wanted g reads events i segments) (map (chain_read events) (starts_of wanted g reads events i segments))) ≡ changes_of wanted g reads events i segments
    changes-are i [] good at l o course = refl
    changes-are i (kept marks seats ∷ segments) good at l o course =
        changes-are (i + length marks) segments good.1 (kept-at events i marks (marks_of wanted g reads events segments) at) (kept-room events i marks (marks_of wanted g reads events segments) at l) (end_after o seats)
        (course-on AcrossGap g.tab g.bytes o seats (flat_map seats_of segments) course)
    changes-are i (chain of [] ∷ segments) good at l o course =
        let same : i ≡ i + 0 = omega arith in
        changes-are i segments good.1 at l o course ∙ ap (λ k. changes_of wanted g reads events k segments) same
    changes-are i (chain of (c ∷ cs) ∷ segments) good at l o course =
        let rest = marks_of wanted g reads events segments in
        let more = flat_map seats_of segments in
        let t = in_line (c ∷ cs) in
        let next = chain-next of g events i false (c ∷ cs) rest good.0.2 at in
        let room = chain-room of g events i false (c ∷ cs) rest good.0.2 at l in
        let others = changes-are (i + two_for (c ∷ cs)) segments good.1 next room (end_after o t) (course-on AcrossGap g.tab g.bytes o t more course) in
        λ j. one-chain of i c cs rest good.0.2 good.0.3 at l o more course j ++ others j

  -- the list with the texts of its chains
  pub texts-read : 0 < g.tab → (segments : List Segment) → AllByRecursion (IsGood wanted) segments → (o : Point) → Course AcrossGap g.tab g.bytes o (flat_map seats_of segments)
      → let events = linked_from 0 (marks_of wanted g reads [] segments) in with_children wanted events (map (chain_read events) (fitting_starts wanted events)) ≡ linked_from 0 (texts_of wanted g reads [] segments)
  texts-read some segments good o course =
      let marks = marks_of wanted g reads [] segments in
      let events : List Event = linked_from 0 marks in
      let n = length events in
      let starts : fitting_starts wanted events ≡ starts_of wanted g reads events 0 segments = ap (starts_in wanted events 0) (linked-length 0 marks) ∙ starts-are wanted g reads events 0 segments good refl in
      let ws : List Change = changes_of wanted g reads events 0 segments in
      let are : child_changes wanted events (map (chain_read events) (fitting_starts wanted events)) ≡ ws =
      ap (λ (cs : List ℕ). flat_map chain_changes (divided_over events cs (map (chain_read events) cs))) starts ∙ changes-are some events 0 segments good refl (omega arith) o course in
      let z : n ≡ 0 + n = omega arith in
      let apart : AreApart 0 ws (0 + n) = subst (AreApart 0 ws) z (changes-apart wanted g reads events 0 segments good refl (omega arith)) in
      let ts = woven ws 0 events in
      let texts = linked_from 0 (texts_of wanted g reads [] segments) in
      let untagged-is : untagged ts ≡ texts = ap untagged (woven-pass ws 0 events apart) ∙ after-texts wanted g reads events none 0 0 segments good refl (omega arith) in
      let same = subst (AllByRecursion IsSame) (sym untagged-is) (all-same wanted 0 (texts_of wanted g reads [] segments) (kept-texts [] segments good)) in
      ap (λ ws. placed (woven ws 0 events)) are ∙ placed-same ts ts same ∙ untagged-is
