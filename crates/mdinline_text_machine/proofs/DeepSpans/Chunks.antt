-- Chunks of a list whose events account for a document: each is over its virtual bytes, and the text of a chain has those of its chunks. The parts of
-- a chain's child stand in place of them.
use Rattle.mdinline_text_machine.proofs.Prelude.{◌≡◌, ℕ, ◌+◌, ◌<◌, ◌≤◌, ◌∷◌, ◌++◌, [], List, true, false, cond, Option, refl, sym, ◌∙◌, ap, subst, drop, filter, length, map, flat_map, append-nil, between, end-after-append, Content, Event, Point, denotes_same, shown, in_range, Seat, virtual, end_after, Given, Text, pushed, passed, empty_text, followed_by, followed_by_all, IsChain, Change, part_changes, AreSpaced, front_until, parts, after_changes, fits, IsReady, place_at, pieces_behind, text_of_chain, chunk, split-at, AccountFor}
use Rattle.std.proofs.Common.{append_assoc}
use Rattle.markdown_children.proofs.Parts.Kept.{part_after}
use Rattle.mdinline_text_machine.proofs.DeepSpans.Atoms.{none-account, span-in}
use Rattle.mdinline_text_machine.proofs.DeepSpans.Places.{origin, place-shown, chain-from, range-of}
use Rattle.mdinline_text_machine.proofs.Paragraphs.ChunkPairs.{place-at-event}
use Rattle.mdinline_text_machine.proofs.Paragraphs.ChunksReady.{between-none, drop-two}

module _ (g : Given) (events : List Event) where
  -- the virtual bytes of the chunk at an index
  abbrev pub chunk_seats : ℕ → List Seat
  chunk_seats k = filter (in_range (place_at events k) (place_at events (k + 1))) (virtual g.tab g.bytes)

  -- a gap has none
  behind-seats : (ks : List ℕ) (text : Text) → (followed_by_all g text (pieces_behind events ks)).seats ≡ text.seats ++ flat_map chunk_seats ks
  behind-seats [] text = sym (append-nil text.seats)
  behind-seats (k ∷ ks) text =
      let p = place_at events k in
      let gap = followed_by g text (passed p) in
      let none : gap.seats ≡ text.seats = elim (denotes_same g.tab g.bytes p text.end) as (λ b. (cond b text (record text { end = p })).seats ≡ text.seats) [ true ↦ refl | false ↦ refl ] in
      let others = flat_map chunk_seats ks in
      behind-seats ks (followed_by g gap (pushed p (place_at events (k + 1)))) ∙ ap (λ l. (l ++ chunk_seats k) ++ others) none ∙ append_assoc text.seats (chunk_seats k) others

  pub chain-seats : (c : ℕ) (ks : List ℕ) → (text_of_chain g events (c ∷ ks)).seats ≡ flat_map chunk_seats (c ∷ ks)
  chain-seats c ks = behind-seats ks (followed_by g (empty_text (place_at events c)) (pushed (place_at events c) (place_at events (c + 1))))

module _ (g : Given) (some : 0 < g.tab) (events : List Event) where
  -- From an index on, the events account for the virtual bytes behind these
  pub record Stands (i : ℕ) (pre rest : List Seat) : Type 0 where
    pub whole : virtual g.tab g.bytes ≡ pre ++ rest
    pub account : AccountFor (drop i events) g.bytes rest

  -- the place behind virtual bytes of the document
  abbrev pub place_behind : List Seat → Point
  place_behind pre = end_after (origin g.tab g.bytes some) pre

  -- The chunk at k is over its virtual bytes; between i and k other virtual bytes are accounted for
  pub record HasChunk (i k : ℕ) (pre rest : List Seat) : Type 0 where
    pub before : List Seat
    pub first : Seat
    pub others : List Seat
    pub behind : List Seat
    pub are : rest ≡ before ++ ((first ∷ others) ++ behind)
    pub gap : AccountFor (between i k events) g.bytes before
    pub text : chunk_seats g events k ≡ first ∷ others
    pub first_shown : shown g.bytes first.point ≡ place_at events k
    pub from : place_at events k ≡ place_behind (pre ++ before)
    pub to : place_at events (k + 1) ≡ place_behind ((pre ++ before) ++ (first ∷ others))
    pub next : Stands (k + 2) ((pre ++ before) ++ (first ∷ others)) behind

  pub has-chunk : {wanted : Option Content} → IsReady g.tab g.bytes wanted events → (i k : ℕ) (pre rest : List Seat) → fits wanted events k ≡ true → i ≤ k → Stands i pre rest → HasChunk i k pre rest
  has-chunk {wanted} ready i k pre rest h l stands =
      let c = chunk g.tab g.bytes wanted events ready k h in
      let gap = between i k events in
      let is : drop i events ≡ gap ++ c.enter ∷ c.exit ∷ drop (k + 2) events = split-at events i k l ∙ ap (λ ys. gap ++ ys) (drop-two events k c.enter c.exit c.enter_at c.exit_at) in
      let s = span-in g.bytes gap c.enter c.exit (drop (k + 2) events) rest c.linked.enter c.ended.exits (subst (λ es. AccountFor es g.bytes rest) is stands.account) in
      let t = s.first ∷ s.others in
      let front = pre ++ s.before in
      let p = place_behind front in
      let whole : virtual g.tab g.bytes ≡ front ++ (t ++ s.behind) = stands.whole ∙ ap (λ r. pre ++ r) s.are ∙ sym (append_assoc pre s.before (t ++ s.behind)) in
      let chain : IsChain g.tab g.bytes p (t ++ s.behind) = chain-from g.tab g.bytes some front (t ++ s.behind) whole in
      let enter_at : place_at events k ≡ c.enter.point = place-at-event events k c.enter c.enter_at in
      let from : place_at events k ≡ p = enter_at ∙ s.from ∙ chain.1.shown_is in
      let to : place_at events (k + 1) ≡ end_after p t = place-at-event events (k + 1) c.exit c.exit_at ∙ s.to ∙ place-shown g.tab g.bytes p t s.behind chain in
      record {
        before = s.before;
        first = s.first;
        others = s.others;
        behind = s.behind;
        are = s.are;
        gap = s.front;
        text = (λ j. filter (in_range (from j) (to j)) (virtual g.tab g.bytes)) ∙ range-of g.tab g.bytes some front t s.behind whole;
        first_shown = sym s.from ∙ sym enter_at;
        from = from;
        to = to ∙ sym (end-after-append (origin g.tab g.bytes some) front t);
        next = record { whole = whole ∙ sym (append_assoc front t s.behind); account = s.back };
      }

  -- directly behind a chunk no virtual byte is passed
  pub no-gap : (k d : ℕ) (front behind : List Seat) → d ≡ k + 2 → (chunk : HasChunk (k + 2) d front behind) → chunk.before ≡ []
  no-gap k d front behind at chunk = none-account g.bytes chunk.before (subst (λ l. AccountFor l g.bytes chunk.before) (between-none events (k + 2) d at) chunk.gap)

module _ (events : List Event) where
  -- from a chunk on, the parts of a child's events, and what is between the chunks and behind them
  abbrev pub from_chunk : ℕ → List ℕ → List Event → List Change → List Event
  from_chunk k [] es ws = es ++ after_changes events ws (k + 2)
  from_chunk k (d ∷ ks) es ws =
      let front = front_until (place_at events (k + 1)) es in
      front ++ (between (k + 2) d events ++ from_chunk d ks (drop (length front) es) ws)

  pub up-to-chunk : (c j i k : ℕ) (ks more : List ℕ) (es : List Event) (ws : List Change) → AreSpaced i (k ∷ (ks ++ more)) (length events)
      → after_changes events (part_changes c j (k ∷ ks) (parts (map (λ k. place_at events (k + 1)) (k ∷ ks)) es) ++ ws) i ≡ between i k events ++ from_chunk k ks es ws
  up-to-chunk c j i k [] more es ws spaced = part_after events c j i k [] es [] ws spaced.0
  up-to-chunk c j i k (d ∷ ks) more es ws spaced =
      let front = front_until (place_at events (k + 1)) es in
      let left = drop (length front) es in
      part_after events c j i k (d ∷ ks) front (parts (map (λ k. place_at events (k + 1)) (d ∷ ks)) left) ws spaced.0
      ∙ ap (λ l. between i k events ++ (front ++ l)) (up-to-chunk c (j + length front) (k + 2) d ks more left ws spaced.1)
