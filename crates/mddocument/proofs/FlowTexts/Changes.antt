-- The changes that put the texts of segments in place of their chunks, and the list behind them.
use Rattle.mddocument.proofs.Prelude.{◌≡◌, ℕ, suc, ◌+◌, ◌-◌, ◌≤◌, List, [], ◌∷◌, ◌++◌, false, Option, Some, None, append_assoc, length, map, take, drop, refl, sym, ap, ◌∙◌, subst, arith, slice_get_within, AllByRecursion, between, flat_map, Content, Event, Point, Seat, length-parts, length-map_ends, after_changes, after-step, between-none, joined, joined-parts, part_after, untagged, untagged-olds, part_changes, parts, place_at, AreApart, Change, Given, first-linked, mark_at, Mark, linked_from}
use Rattle.mddocument.proofs.FlowTexts.Chained.{two_for, indices, IsAt, first-at, next-at, starts_in, kept-starts, kept-at}
use Rattle.mddocument.proofs.FlowTexts.Chunks.{chain-starts, chain-next, chain-room}
use Rattle.mddocument.proofs.FlowTexts.Segments.{Segment, kept, chain, IsKept, IsGood, deep_of, flat_of, in_line}
use Rattle.mdblock_leaf_blocks.proofs.Marks.MarkLists.{linked-append}

-- changes that are apart from an index on are so from one before it
pub apart-before : (m i n : ℕ) (ws : List Change) → i ≤ m → AreApart m ws n → AreApart i ws n
apart-before m i n [] l h = omega (arith, l, h)
apart-before m i n (w ∷ ws) l h = let first : m ≤ w.index = h.0 in (omega (arith, l, first), h.1)

-- those of a chain's parts are apart if those behind are
apart-parts : (c j i n : ℕ) (cs : List (List Seat)) (ps : List (List Event)) (ws : List Change) → length (indices i cs) ≡ length ps → AreApart (i + two_for cs) ws n → AreApart i (part_changes c j (indices i cs) ps ++ ws) n
apart-parts c j i n [] ps ws l h = apart-before (i + 0) i n ws (omega arith) h
apart-parts c j i n (d ∷ cs) [] ws l h = absurd (omega (arith, l))
apart-parts c j i n (d ∷ cs) (p ∷ ps) ws l h =
    let same : i + two_for (d ∷ cs) ≡ i + 2 + two_for cs = omega arith in
    (omega arith, apart-parts c (j + length p) (i + 2) n cs ps ws (omega (arith, l)) (subst (λ m. AreApart m ws n) same h))

-- a kept mark has the same event at each index
same-mark : (wanted : Option Content) (i j : ℕ) (m : Mark) → IsKept wanted m → mark_at i m ≡ mark_at j m
same-mark wanted i j (e, None) h = refl
same-mark wanted i j (e, Some chunk) h = rw (h.1, h.2) refl

linked-read : (j : ℕ) (es : List Event) → linked_from j (map (λ (e : Event). (e, None)) es) ≡ es
linked-read j [] = refl
linked-read j (e ∷ es) = ap (λ l. e ∷ l) (linked-read (j + 1) es)

module _ (events : List Event) where
  after-none : (i : ℕ) → after_changes events [] i ≡ drop i events
  after-none i = untagged-olds i (drop i events)

  -- an event before the changes stays
  between-more : (i b : ℕ) (x : Event) (xs : List Event) → drop i events ≡ x ∷ xs → drop (i + 1) events ≡ xs → i + 1 ≤ b → between i b events ≡ x ∷ between (i + 1) b events
  between-more i b x xs here then l =
      let one : b - i ≡ suc (b - (i + 1)) = omega (arith, l) in
      (λ k. take (one k) (here k)) ∙ ap (λ ys. x ∷ take (b - (i + 1)) ys) (sym then)

  after-one : (i n : ℕ) (x : Event) (xs : List Event) (ws : List Change) → drop i events ≡ x ∷ xs → drop (i + 1) events ≡ xs → AreApart (i + 1) ws n → after_changes events ws i ≡ x ∷ after_changes events ws (i + 1)
  after-one i n x xs [] here then apart = after-none i ∙ here ∙ ap (λ l. x ∷ l) (sym then ∙ sym (after-none (i + 1)))
  after-one i n x xs (w ∷ ws) here then apart =
      let first : i + 1 ≤ w.index = apart.0 in
      let behind : List Event = untagged w.events ++ after_changes events ws (w.index + w.remove) in
      after-step events w ws i (omega (arith, first)) ∙ ap (λ l. l ++ behind) (between-more i w.index x xs here then first) ∙ ap (λ l. x ∷ l) (sym (after-step events w ws (i + 1) first))

  pub after-kept : (wanted : Option Content) (i j n : ℕ) (marks rest : List Mark) (ws : List Change) → AllByRecursion (IsKept wanted) marks → IsAt events i (marks ++ rest) → AreApart (i + length marks) ws n
      → after_changes events ws i ≡ linked_from j marks ++ after_changes events ws (i + length marks)
  after-kept wanted i j n [] rest ws h at apart = let same : i ≡ i + 0 = omega arith in ap (after_changes events ws) same
  after-kept wanted i j n (m ∷ marks) rest ws h at apart =
      let same : i + 1 + length marks ≡ i + length (m ∷ marks) = omega arith in
      let next = next-at events i m (marks ++ rest) at in
      let behind : AreApart (i + 1 + length marks) ws n = subst (λ k. AreApart k ws n) (sym same) apart in
      let one = after-one i n (mark_at i m) (linked_from (i + 1) (marks ++ rest)) ws (at ∙ first-linked i m (marks ++ rest)) next (apart-before (i + 1 + length marks) (i + 1) n ws (omega arith) behind) in
      one ∙ (λ k. same-mark wanted i j m h.0 k ∷ (after-kept wanted (i + 1) (j + 1) n marks rest ws h.1 next behind ∙ ap (λ k. linked_from (j + 1) marks ++ after_changes events ws k) same) k)
      ∙ ap (λ l. l ++ after_changes events ws (i + length (m ∷ marks))) (sym (first-linked j m marks))

  -- the parts of a chain stand one behind another
  after-parts : (c j i : ℕ) (cs : List (List Seat)) (ps : List (List Event)) (ws : List Change) → length (indices i cs) ≡ length ps
      → after_changes events (part_changes c j (indices i cs) ps ++ ws) i ≡ joined ps ++ after_changes events ws (i + two_for cs)
  after-parts c j i [] [] ws l = let same : i ≡ i + 0 = omega arith in ap (after_changes events ws) same
  after-parts c j i [] (p ∷ ps) ws l = absurd (omega (arith, l))
  after-parts c j i (d ∷ cs) [] ws l = absurd (omega (arith, l))
  after-parts c j i (d ∷ cs) (p ∷ ps) ws l =
      let same : i + 2 + two_for cs ≡ i + two_for (d ∷ cs) = omega arith in
      let then = after-parts c (j + length p) (i + 2) cs ps ws (omega (arith, l)) in
      let behind : List Event = p ++ after_changes events (part_changes c (j + length p) (indices (i + 2) cs) ps ++ ws) (i + 2) in
      part_after events c j i i (indices (i + 2) cs) p ps ws (omega arith) ∙ ap (λ l. l ++ behind) (between-none events i i refl)
      ∙ ap (λ l. p ++ l) (then ∙ ap (λ k. joined ps ++ after_changes events ws k) same) ∙ sym (append_assoc p (joined ps) (after_changes events ws (i + two_for (d ∷ cs))))

  pub kept-room : (i : ℕ) (marks rest : List Mark) → IsAt events i (marks ++ rest) → i ≤ length events → i + length marks ≤ length events
  kept-room i [] rest at l = omega (arith, l)
  kept-room i (m ∷ marks) rest at l =
      let within = slice_get_within events i (mark_at i m) (first-at events i m (marks ++ rest) at) in
      let more = kept-room (i + 1) marks rest (next-at events i m (marks ++ rest) at) (omega (arith, within)) in
      omega (arith, more)

module _ (wanted : Option Content) (g : Given) (reads : Option Content → List Seat → List Event) (events : List Event) where
  abbrev n : ℕ
  n = length events

  -- what a chain is read as, and the places where its chunks end
  abbrev child_of : Content → List (List Seat) → List Event
  child_of of cs = reads (Some of) (in_line cs)

  abbrev ends_of : List ℕ → List Point
  ends_of ks = map (λ k. place_at events (k + 1)) ks

  abbrev parts_of : Content → (i : ℕ) → List (List Seat) → List (List Event)
  parts_of of i cs = parts (ends_of (indices i cs)) (child_of of cs)

  -- the changes that put the texts of segments in place of their chunks
  abbrev pub changes_of : ℕ → List Segment → List Change
  changes_of i [] = []
  changes_of i (kept marks seats ∷ segments) = changes_of (i + length marks) segments
  changes_of i (chain of cs ∷ segments) = part_changes i 0 (indices i cs) (parts_of of i cs) ++ changes_of (i + two_for cs) segments

  -- the first chunks of segments
  abbrev pub starts_of : ℕ → List Segment → List ℕ
  starts_of i [] = []
  starts_of i (kept marks seats ∷ segments) = starts_of (i + length marks) segments
  starts_of i (chain of [] ∷ segments) = starts_of i segments
  starts_of i (chain of (c ∷ cs) ∷ segments) = i ∷ starts_of (i + two_for (c ∷ cs)) segments

  abbrev pub marks_of : List Segment → List Mark
  marks_of segments = flat_map (flat_of g.bytes) segments

  abbrev pub texts_of : List Segment → List Mark
  texts_of segments = flat_map (deep_of g.bytes reads) segments

  as-many : (of : Content) (i : ℕ) (cs : List (List Seat)) → length (indices i cs) ≡ length (parts_of of i cs)
  as-many of i cs = sym (length-parts (ends_of (indices i cs)) (child_of of cs) ∙ length-map_ends events (indices i cs))

  all-parts : ((of : Content) → reads (Some of) [] ≡ []) → (of : Content) (i : ℕ) (cs : List (List Seat)) → joined (parts_of of i cs) ≡ child_of of cs
  all-parts none of i [] = sym (none of)
  all-parts none of i (c ∷ cs) = joined-parts (place_at events (i + 1)) (ends_of (indices (i + 2) cs)) (child_of of (c ∷ cs))

  -- the chains of the list are those of segments
  pub starts-are : (i : ℕ) (segments : List Segment) → AllByRecursion (IsGood wanted) segments → IsAt events i (marks_of segments) → starts_in wanted events i (length (marks_of segments)) ≡ starts_of i segments
  starts-are i [] good at = refl
  starts-are i (kept marks seats ∷ segments) good at =
      kept-starts wanted events i marks (marks_of segments) good.0 at ∙ starts-are (i + length marks) segments good.1 (kept-at events i marks (marks_of segments) at)
  starts-are i (chain of [] ∷ segments) good at = starts-are i segments good.1 at
  starts-are i (chain of (c ∷ cs) ∷ segments) good at =
      chain-starts of g events wanted good.0.0 i c cs (marks_of segments) good.0.2 at
      ∙ ap (λ l. i ∷ l) (starts-are (i + two_for (c ∷ cs)) segments good.1 (chain-next of g events i false (c ∷ cs) (marks_of segments) good.0.2 at))

  -- the changes are apart
  pub changes-apart : (i : ℕ) (segments : List Segment) → AllByRecursion (IsGood wanted) segments → IsAt events i (marks_of segments) → i ≤ n → AreApart i (changes_of i segments) n
  changes-apart i [] good at l = l
  changes-apart i (kept marks seats ∷ segments) good at l =
      let more = changes-apart (i + length marks) segments good.1 (kept-at events i marks (marks_of segments) at) (kept-room events i marks (marks_of segments) at l) in
      apart-before (i + length marks) i n (changes_of (i + length marks) segments) (omega arith) more
  changes-apart i (chain of cs ∷ segments) good at l =
      let more = changes-apart (i + two_for cs) segments good.1 (chain-next of g events i false cs (marks_of segments) good.0.2 at) (chain-room of g events i false cs (marks_of segments) good.0.2 at l) in
      apart-parts i 0 i n cs (parts_of of i cs) (changes_of (i + two_for cs) segments) (as-many of i cs) more

  -- behind them the list has the texts of segments
  pub after-texts : ((of : Content) → reads (Some of) [] ≡ []) → (i j : ℕ) (segments : List Segment) → AllByRecursion (IsGood wanted) segments → IsAt events i (marks_of segments) → i ≤ n → after_changes events (changes_of i segments) i ≡ linked_from j (texts_of segments)
  after-texts none i j [] good at l = after-none events i ∙ at
  after-texts none i j (kept marks seats ∷ segments) good at l =
      let k = i + length marks in
      let next = kept-at events i marks (marks_of segments) at in
      let room = kept-room events i marks (marks_of segments) at l in
      after-kept events wanted i j n marks (marks_of segments) (changes_of k segments) good.0 at (changes-apart k segments good.1 next room)
      ∙ ap (λ l. linked_from j marks ++ l) (after-texts none k (j + length marks) segments good.1 next room) ∙ sym (linked-append j marks (texts_of segments))
  after-texts none i j (chain of cs ∷ segments) good at l =
      let k = i + two_for cs in
      let child = child_of of cs in
      let read : List Mark = map (λ (e : Event). (e, None)) child in
      let next = chain-next of g events i false cs (marks_of segments) good.0.2 at in
      let room = chain-room of g events i false cs (marks_of segments) good.0.2 at l in
      after-parts events i 0 i cs (parts_of of i cs) (changes_of k segments) (as-many of i cs)
      ∙ (λ x. all-parts none of i cs x ++ after-texts none k (j + length read) segments good.1 next room x)
      ∙ ap (λ l. l ++ linked_from (j + length read) (texts_of segments)) (sym (linked-read j child)) ∙ sym (linked-append j read (texts_of segments))
