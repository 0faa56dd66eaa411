-- Marks of paragraphs at an index: their events, their links, and what changes of chains leave there.
use Rattle.std.proofs.Common.{◌≡◌, ℕ, zero, suc, ◌+◌, ◌-◌, ◌<◌, ◌≤◌, Bool, true, false, cond, List, [], ◌∷◌, ◌++◌, Some, None, length, map, take, drop, refl, sym, ap, ◌∙◌, subst, arith}
use Rattle.std.specs.Prelude.{◌&&◌, filter, not, option_map, position, slice_get}
use Rattle.std.specs.List.{AllByRecursion, between, flat_map, prefix_len, range_with_len}
use Rattle.std.proofs.lemmas.List.{drop-map, take-append-drop}
use Rattle.std.proofs.lemmas.Option.{slice_get-map, slice_get_within}
use Rattle.std.proofs.lemmas.Bool.{lt-ltb, eq-eqb}
use Rattle.markdown_base.proofs.Common.{every-map, drop-next}
use Rattle.markdown_base.specs.declared.event.Content.TheVariants.{Text as TextContent}
use Rattle.markdown_base.specs.declared.event.Event.{Event}
use Rattle.markdown_edits.specs.Links.{content_at, next_of}
use Rattle.markdown_edits.specs.Woven.{Change}
use Rattle.markdown_children.proofs.Parts.Kept.{after_changes, untagged-olds}
use Rattle.markdown_children.specs.Chains.{begins, chain_of}
use Rattle.markdown_children.specs.Children.{chain_changes}
use Rattle.markdown_children.specs.LawStatements.{AreSpaced, IsWholeFrom}
use Rattle.markdown_children.specs.Parts.{divided_over, parts}
use Rattle.markdown_children.specs.Ready.{IsReady, place_at}
use Rattle.markdown_tokenizer.specs.Text.{Given}
use Rattle.mdconstructs_machines.specs.ParagraphEvents.{Marked, as_linked, begins as begins_chunk, chunk_at, with_links}
use Rattle.mdconstructs_tables.proofs.Looks.Left.{at-front}
use Rattle.mdinline_text_machine.proofs.DeepSpans.Chunks.{from_chunk, up-to-chunk}
use Rattle.mdinline_text_machine.proofs.Paragraphs.ChunkPairs.{FollowsChunk}

-- ---- elements of lists at an index

passes-first : {A : Type 0} (p : A → Bool) (xs : List A) (x : A) (ys : List A) → p x ≡ true → prefix_len (λ y. not (p y)) (xs ++ x ∷ ys) < length (xs ++ x ∷ ys)
passes-first p [] x ys h = rw h (omega arith)
passes-first p (y ∷ xs) x ys h =
    let more = passes-first p xs x ys h in
    elim (p y) as (λ b. cond (not b) (1 + prefix_len (λ y. not (p y)) (xs ++ x ∷ ys)) 0 < suc (length (xs ++ x ∷ ys))) [ true ↦ omega arith | false ↦ omega (arith, more) ]

some-position : {A : Type 0} (p : A → Bool) (xs : List A) (x : A) (ys : List A) → p x ≡ true → (d : ℕ) × (position p (xs ++ x ∷ ys) ≡ Some d)
some-position p xs x ys h =
    let n = prefix_len (λ y. not (p y)) (xs ++ x ∷ ys) in
    (n, ap (λ b. cond b (Some n) None) (lt-ltb n (length (xs ++ x ∷ ys)) (passes-first p xs x ys h)))

-- the indices that are kept are not before the first
least : (p : ℕ → Bool) (i n : ℕ) → AllByRecursion (λ c. i ≤ c) (filter p (range_with_len i n))
least p i zero = tt
least p i (suc n) =
    let more = every-map (λ c. i + 1 ≤ c) (λ c. i ≤ c) (λ c l. omega (arith, l)) (filter p (range_with_len (i + 1) n)) (least p (i + 1) n) in
    elim (p i) as (λ b. AllByRecursion (λ c. i ≤ c) (cond b (i ∷ filter p (range_with_len (i + 1) n)) (filter p (range_with_len (i + 1) n)))) [ true ↦ (omega arith, more) | false ↦ more ]

-- an event before the changes stays
between-more : (events : List Event) (i b : ℕ) (x : Event) (xs : List Event) → drop i events ≡ x ∷ xs → i + 1 ≤ b → between i b events ≡ x ∷ between (i + 1) b events
between-more events i b x xs here l =
    let one : b - i ≡ suc (b - (i + 1)) = omega (arith, l) in
    (λ k. take (one k) (here k)) ∙ ap (λ ys. x ∷ take (b - (i + 1)) ys) (sym (drop-next events i x xs here))

module _ (all : List Marked) where
  abbrev pub events_in : List Event
  events_in = with_links all

  -- the marks from an index on
  abbrev pub At : ℕ → List Marked → Type 0
  At i ms = drop i all ≡ ms

  pub mark-here : (i : ℕ) (m : Marked) (ms : List Marked) → At i (m ∷ ms) → slice_get events_in i ≡ Some (as_linked all m)
  mark-here i m ms at = slice_get-map (as_linked all) all i ∙ ap (option_map (as_linked all)) (at-front all i m ms at)

  pub mark-next : (i : ℕ) (m : Marked) (ms : List Marked) → At i (m ∷ ms) → At (i + 1) ms
  mark-next i m ms at = drop-next all i m ms at

  events-at : (i : ℕ) (ms : List Marked) → At i ms → drop i events_in ≡ map (as_linked all) ms
  events-at i ms at = drop-map (as_linked all) i all ∙ ap (map (as_linked all)) at

  -- a chunk that is among the marks has an index
  pub chunk-there : (i : ℕ) (e : Event) (b n : ℕ) (ms : List Marked) → At i ((e, Some (b, n)) ∷ ms) → (d : ℕ) × (chunk_at all (b, n) ≡ Some d)
  chunk-there i e b n ms at =
      let m : Marked = (e, Some (b, n)) in
      let yes : begins_chunk (b, n) m ≡ true = (λ j. eq-eqb b b refl j && eq-eqb n n refl j) in
      let is : take i all ++ m ∷ ms ≡ all = ap (λ l. take i all ++ l) (sym at) ∙ take-append-drop i all in
      subst (λ (l : List Marked). (d : ℕ) × (position (begins_chunk (b, n)) l ≡ Some d)) is (some-position (begins_chunk (b, n)) (take i all) m ms yes)

  pub chunk-content : (i : ℕ) (e : Event) (b n : ℕ) (ms : List Marked) → At i ((e, Some (b, n)) ∷ ms) → content_at events_in i ≡ Some TextContent
  chunk-content i e b n ms at = let here = mark-here i (e, Some (b, n)) ms at in rw here refl

  pub chunk-next : (i : ℕ) (e : Event) (b n : ℕ) (ms : List Marked) → At i ((e, Some (b, n)) ∷ ms) → next_of events_in i ≡ chunk_at all (b, suc n)
  chunk-next i e b n ms at = let here = mark-here i (e, Some (b, n)) ms at in rw here refl

  pub plain-content : (i : ℕ) (e : Event) (ms : List Marked) → e.link ≡ None → At i ((e, None) ∷ ms) → content_at events_in i ≡ None
  plain-content i e ms alone at = let here = mark-here i (e, None) ms at in rw (here, alone) refl

  -- the first chunk of a paragraph begins a chain, no other does
  pub first-begins : (i : ℕ) (e : Event) (b : ℕ) (ms : List Marked) → At i ((e, Some (b, zero)) ∷ ms) → begins (Some TextContent) events_in i ≡ true
  first-begins i e b ms at = let here = mark-here i (e, Some (b, zero)) ms at in rw here refl

  pub later-begins-not : (i : ℕ) (e : Event) (b n d : ℕ) (ms : List Marked) → chunk_at all (b, n) ≡ Some d → At i ((e, Some (b, suc n)) ∷ ms) → begins (Some TextContent) events_in i ≡ false
  later-begins-not i e b n d ms before at = let here = mark-here i (e, Some (b, suc n)) ms at in rw (here, before) refl

  pub plain-begins-not : (i : ℕ) (e : Event) (ms : List Marked) → e.link ≡ None → At i ((e, None) ∷ ms) → begins (Some TextContent) events_in i ≡ false
  plain-begins-not i e ms alone at = let here = mark-here i (e, None) ms at in rw (here, alone) refl

  -- ---- chains that begin from an index on
  abbrev pub starts_in : ℕ → ℕ → List ℕ
  starts_in i n = filter (begins (Some TextContent) events_in) (range_with_len i n)

  pub starts-pass : (i n : ℕ) → begins (Some TextContent) events_in i ≡ false → starts_in i (suc n) ≡ starts_in (i + 1) n
  starts-pass i n none = rw none refl

  pub starts-take : (i n : ℕ) → begins (Some TextContent) events_in i ≡ true → starts_in i (suc n) ≡ i ∷ starts_in (i + 1) n
  starts-take i n one = rw one refl

  -- These chains are ahead of an index, before so many events
  pub record Ahead (i n : ℕ) (cs : List ℕ) : Type 0 where
    pub starts : starts_in i n ≡ cs
    pub whole : AllByRecursion (IsWholeFrom events_in) cs
    pub spaced : AreSpaced i (flat_map (chain_of events_in) cs) (length events_in)

module _ (g : Given) (some : 0 < g.tab) (all : List Marked) (ready : IsReady g.tab g.bytes (Some TextContent) (with_links all))
    (pairs : (k d : ℕ) → next_of (with_links all) k ≡ Some d → FollowsChunk (with_links all) k d) (of_chain : ℕ → List Event) where
  abbrev events : List Event
  events = with_links all

  -- what the chains are changed to
  abbrev pub changes : List ℕ → List Change
  changes cs = flat_map chain_changes (divided_over events cs (map of_chain cs))

  -- the events from an index on, with the texts of chains
  abbrev pub left_from : List ℕ → ℕ → List Event
  left_from cs i = after_changes events (changes cs) i

  abbrev pub from_here : ℕ → List ℕ → List Event → List ℕ → List Event
  from_here k ks es cs = from_chunk events k ks es (changes cs)

  pub left-none : (i : ℕ) → left_from [] i ≡ drop i events
  left-none i = untagged-olds i (drop i events)

  -- up to the first chain the events stay
  pub left-chain : (i c : ℕ) (cs : List ℕ) (w : IsWholeFrom events c) → AreSpaced i (flat_map (chain_of events) (c ∷ cs)) (length events)
      → left_from (c ∷ cs) i ≡ between i c events ++ from_here c w.0 (of_chain c) cs
  left-chain i c cs w spaced =
      let ks = w.0 in
      let more = flat_map (chain_of events) cs in
      let child = of_chain c in
      let ws : List Change = changes cs in
      let by : List ℕ → List Change = λ ys. chain_changes (record { chunks = ys; parts = parts (map (λ k. place_at events (k + 1)) ys) child }) in
      let apart : AreSpaced i (c ∷ (ks ++ more)) (length events) = subst (λ (ys : List ℕ). AreSpaced i (ys ++ more) (length events)) w.1 spaced in
      ap (λ (ys : List ℕ). after_changes events (by ys ++ ws) i) w.1 ∙ up-to-chunk events c 0 i c ks more child ws apart

  abbrev More : ℕ → List ℕ → Type 0
  More i cs = AreSpaced i (flat_map (chain_of events) cs) (length events)

  spaced-on : (i : ℕ) (e : Event) (cs : List ℕ) → slice_get events i ≡ Some e → AllByRecursion (λ c. i + 1 ≤ c) cs → AllByRecursion (IsWholeFrom events) cs → More i cs → More (i + 1) cs
  spaced-on i e [] here later whole spaced = let within = slice_get_within events i e here in omega (arith, within)
  spaced-on i e (c ∷ cs) here later whole spaced =
      let more = flat_map (chain_of events) cs in
      let old : AreSpaced i (c ∷ (whole.0.0 ++ more)) (length events) = subst (λ (ys : List ℕ). AreSpaced i (ys ++ more) (length events)) whole.0.1 spaced in
      subst (λ (ys : List ℕ). AreSpaced (i + 1) (ys ++ more) (length events)) (sym whole.0.1) (later.0, old.1)

  left-on : (i : ℕ) (m : Marked) (ms : List Marked) (cs : List ℕ) → At all i (m ∷ ms) → AllByRecursion (λ c. i + 1 ≤ c) cs → AllByRecursion (IsWholeFrom events) cs → More i cs → More (i + 1) cs
      → left_from cs i ≡ as_linked all m ∷ left_from cs (i + 1)
  left-on i m ms [] at later whole spaced then =
      left-none i ∙ events-at all i (m ∷ ms) at ∙ ap (λ l. as_linked all m ∷ l) (sym (events-at all (i + 1) ms (mark-next all i m ms at)) ∙ sym (left-none (i + 1)))
  left-on i m ms (c ∷ cs) at later whole spaced then =
      let first = left-chain i c cs whole.0 spaced in
      let second = left-chain (i + 1) c cs whole.0 then in
      let rest = from_here c whole.0.0 (of_chain c) cs in
      first ∙ ap (λ l. l ++ rest) (between-more events i c (as_linked all m) (map (as_linked all) ms) (events-at all i (m ∷ ms) at) later.0) ∙ ap (λ l. as_linked all m ∷ l) (sym second)

  -- a mark that begins no chain stays
  pub record Passed (i : ℕ) (m : Marked) (ms : List Marked) (cs : List ℕ) : Type 0 where
    pub at : At all (i + 1) ms
    pub ahead : Ahead all (i + 1) (length ms) cs
    pub left : left_from cs i ≡ as_linked all m ∷ left_from cs (i + 1)

  pub pass : (i : ℕ) (m : Marked) (ms : List Marked) (cs : List ℕ) → At all i (m ∷ ms) → begins (Some TextContent) events i ≡ false → Ahead all i (suc (length ms)) cs → Passed i m ms cs
  pass i m ms cs at none h =
      let starts = sym (starts-pass all i (length ms) none) ∙ h.starts in
      let later : AllByRecursion (λ c. i + 1 ≤ c) cs = subst (AllByRecursion (λ c. i + 1 ≤ c)) starts (least (begins (Some TextContent) events) (i + 1) (length ms)) in
      let spaced = spaced-on i (as_linked all m) cs (mark-here all i m ms at) later h.whole h.spaced in
      record { at = mark-next all i m ms at; ahead = record { starts = starts; whole = h.whole; spaced = spaced }; left = left-on i m ms cs at later h.whole h.spaced spaced }

  pub pass-plain : (i : ℕ) (e : Event) (ms : List Marked) (cs : List ℕ) → e.link ≡ None → At all i ((e, None) ∷ ms) → Ahead all i (suc (length ms)) cs → Passed i (e, None) ms cs
  pass-plain i e ms cs alone at h = pass i (e, None) ms cs at (plain-begins-not all i e ms alone at) h
