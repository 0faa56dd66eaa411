-- The text of each chain of chained marks: the virtual bytes of its first chunk and of those linked behind it. So what holds of these holds of the text of each chain.
use Rattle.std.proofs.Common.{◌≡◌, ℕ, zero, suc, ◌+◌, ◌≤◌, Bool, true, false, cond, List, [], ◌∷◌, ◌++◌, ap, arith, drop, length, refl, subst, sym, ◌∙◌}
use Rattle.std.specs.Prelude.{None, Option, Some, filter, option_and_then, option_map, slice_get, unwrap_or}
use Rattle.std.specs.List.{flat_map}
use Rattle.markdown_base.proofs.Common.{drop-next}
use Rattle.markdown_base.specs.declared.event.Event.{Event}
use Rattle.markdown_base.specs.declared.event.Link.{Link}
use Rattle.markdown_base.specs.declared.event.Point.{Point}
use Rattle.markdown_base.specs.Places.{in_range}
use Rattle.markdown_base.specs.Virtual.{Seat, point, virtual}
use Rattle.markdown_edits.specs.Links.{content_at, content_of, next_of}
use Rattle.markdown_tokenizer.specs.Text.{Given}
use Rattle.markdown_children.specs.Chains.{chain_from, chain_of}
use Rattle.markdown_children.specs.Reads.{text_of_chain}
use Rattle.markdown_children.specs.Ready.{place_at}
use Rattle.mdinline_text_machine.proofs.DeepSpans.Chunks.{chain-seats, chunk_seats}
use Rattle.mdblock_leaf_blocks.specs.LeafEvents.{Chunk, Mark}
use Rattle.mdblock_containers.proofs.WrittenLemmas.{chained_length}
use Rattle.mdblock_containers.specs.Skeleton.{chained_from, next_chunk}

-- ---- events by indices
get-drop : (xs : List Event) (i j : ℕ) → slice_get xs (i + j) ≡ slice_get (drop i xs) j
get-drop xs zero j = let same : 0 + j ≡ j = omega arith in ap (slice_get xs) same
get-drop [] (suc i) j = refl
get-drop (x ∷ xs) (suc i) j = let same : suc i + j ≡ suc (i + j) = omega arith in ap (slice_get (x ∷ xs)) same ∙ get-drop xs i j

get-first : (xs : List Event) (i : ℕ) → slice_get xs i ≡ slice_get (drop i xs) 0
get-first xs i = let same : i + 0 ≡ i = omega arith in sym (ap (slice_get xs) same) ∙ get-drop xs i 0

module _ (g : Given) (Q : List Seat → Type 0) where
  abbrev mark_point : List Mark → Point
  mark_point [] = point 1 1 0 0
  mark_point (m ∷ ms) = m.0.point

  -- the virtual bytes of the first chunk of marks, and of the chunks that are linked behind it
  abbrev pub run : List Mark → List Seat
  run [] = []
  run ((e, None) ∷ ms) = run ms
  run ((e, Some k) ∷ ms) = filter (in_range e.point (mark_point ms)) (virtual g.tab g.bytes) ++ cond k.has_next (run ms) []

  -- From each chunk on it is so, and nothing else has a link
  abbrev pub Good : List Mark → Type 0
  Good [] = Unit {0}
  Good ((e, None) ∷ ms) = (e.link ≡ None) × Good ms
  Good ((e, Some k) ∷ ms) = Q (run ((e, Some k) ∷ ms)) × Good ms

  module _ (es : List Event) where
    -- from an index on the events are those of these marks
    abbrev IsAt : ℕ → Option ℕ → List Mark → Type 0
    IsAt i p ms = drop i es ≡ chained_from i p ms

    next-at : (i : ℕ) (x : Event) (rest : List Event) → drop i es ≡ x ∷ rest → drop (suc i) es ≡ rest
    next-at i x rest h = let same : suc i ≡ i + 1 = omega arith in ap (λ n. drop n es) same ∙ drop-next es i x rest h

    abbrev link_of : ℕ → Option ℕ → Chunk → List Mark → Link
    link_of i p c ms = record { previous = cond c.has_previous p None; next = cond c.has_next (next_chunk (suc i) ms) None; content = c.content }

    first-point : (i : ℕ) (p : Option ℕ) (ms : List Mark) → unwrap_or (option_map (λ (e : Event). e.point) (slice_get (chained_from i p ms) 0)) (point 1 1 0 0) ≡ mark_point ms
    first-point i p [] = refl
    first-point i p ((e, None) ∷ ms) = refl
    first-point i p ((e, Some c) ∷ ms) = refl

    place-is : (i : ℕ) (p : Option ℕ) (ms : List Mark) → IsAt i p ms → place_at es i ≡ mark_point ms
    place-is i p ms h = ap (λ o. unwrap_or (option_map (λ (e : Event). e.point) o) (point 1 1 0 0)) (get-first es i ∙ ap (λ l. slice_get l 0) h) ∙ first-point i p ms

    -- the next chunk
    record Found (i : ℕ) (ms : List Mark) (d : ℕ) : Type 0 where
      event : Event
      chunk : Chunk
      rest : List Mark
      previous : Option ℕ
      at : IsAt d previous ((event, Some chunk) ∷ rest)
      same : run ms ≡ run ((event, Some chunk) ∷ rest)
      fewer : length ((event, Some chunk) ∷ rest) ≤ length ms

    abbrev Next : ℕ → List Mark → Option ℕ → Type 0
    Next i ms o = elim o as (λ _. Type 0) [ None ↦ run ms ≡ [] | Some d ↦ Found i ms d ]

    find : (i : ℕ) (p : Option ℕ) (ms : List Mark) → IsAt i p ms → Next i ms (next_chunk i ms)
    find i p [] h = refl
    find i p ((e, None) ∷ ms) h = by (next_chunk (suc i) ms) (find (suc i) p ms (next-at i e (chained_from (suc i) p ms) h))
      where
        by : (o : Option ℕ) → Next (suc i) ms o → Next i ((e, None) ∷ ms) o
        by None k = k
        by (Some d) k = let few = k.fewer in record { event = k.event; chunk = k.chunk; rest = k.rest; previous = k.previous; at = k.at; same = k.same; fewer = omega (arith, few) }
    find i p ((e, Some c) ∷ ms) h = record { event = e; chunk = c; rest = ms; previous = p; at = h; same = refl; fewer = omega arith }

    -- the chunks from one on have its run
    chunks-run : (n k : ℕ) (p : Option ℕ) (e : Event) (c : Chunk) (ms : List Mark) → IsAt k p ((e, Some c) ∷ ms) → length ((e, Some c) ∷ ms) ≤ n → flat_map (chunk_seats g es) (chain_from n es k) ≡ run ((e, Some c) ∷ ms)
    chunks-run zero k p e c ms h few = absurd (omega (arith, few))
    chunks-run (suc n) k p e c ms h few =
        let x : Event = record e { link = Some (link_of k p c ms) } in
        let behind : drop (suc k) es ≡ chained_from (suc k) (Some k) ms = next-at k x (chained_from (suc k) (Some k) ms) h in
        let next-place : k + 1 ≡ suc k = omega arith in
        let to : place_at es (k + 1) ≡ mark_point ms = ap (place_at es) next-place ∙ place-is (suc k) (Some k) ms behind in
        let from : place_at es k ≡ e.point = place-is k p ((e, Some c) ∷ ms) h in
        let link : next_of es k ≡ cond c.has_next (next_chunk (suc k) ms) None =
        ap (option_and_then (λ (y : Event). option_and_then (λ (l : Link). l.next) y.link)) (get-first es k ∙ ap (λ l. slice_get l 0) h) in
        (λ i. filter (in_range (from i) (to i)) (virtual g.tab g.bytes) ++ flat_map (chunk_seats g es) (unwrap_or (option_map (λ d. chain_from n es d) (link i)) []))
        ∙ ap (λ l. filter (in_range e.point (mark_point ms)) (virtual g.tab g.bytes) ++ l) (by c.has_next (next_chunk (suc k) ms) (find (suc k) (Some k) ms behind) (λ d f. chunks-run n d f.previous f.event f.chunk f.rest f.at (let less = f.fewer in omega (arith, few, less))))
      where
        by : (b : Bool) (o : Option ℕ) → Next (suc k) ms o → ((d : ℕ) (f : Found (suc k) ms d) → flat_map (chunk_seats g es) (chain_from n es d) ≡ run ((f.event, Some f.chunk) ∷ f.rest))
            → flat_map (chunk_seats g es) (unwrap_or (option_map (λ d. chain_from n es d) (cond b o None)) []) ≡ cond b (run ms) []
        by false o f rest = refl
        by true None f rest = sym f
        by true (Some d) f rest = rest d f ∙ sym f.same

    chain-run : (k : ℕ) (p : Option ℕ) (e : Event) (c : Chunk) (ms : List Mark) → IsAt k p ((e, Some c) ∷ ms) → length ((e, Some c) ∷ ms) ≤ length es → (text_of_chain g es (chain_of es k)).seats ≡ run ((e, Some c) ∷ ms)
    chain-run k p e c ms h few = seats-of (chain_of es k) ∙ chunks-run (length es) k p e c ms h few
      where
        seats-of : (ks : List ℕ) → (text_of_chain g es ks).seats ≡ flat_map (chunk_seats g es) ks
        seats-of [] = refl
        seats-of (k ∷ ks) = chain-seats g es k ks

    -- so it is of each chain
    from-good : (i : ℕ) (p : Option ℕ) (ms : List Mark) → IsAt i p ms → length ms ≤ length es → Good ms → (j : ℕ) → (content_at es (i + j) ≡ None → ⊥) → Q (text_of_chain g es (chain_of es (i + j))).seats
    from-good i p [] h few good j some = absurd (some (ap (option_and_then content_of) (get-drop es i j ∙ ap (λ l. slice_get l j) h)))
    from-good i p ((e, None) ∷ ms) h few good zero some =
        absurd (some (ap (option_and_then content_of) (get-drop es i 0 ∙ ap (λ l. slice_get l 0) h) ∙ ap (λ (l : Option Link). option_map (λ (x : Link). x.content) l) good.0))
    from-good i p ((e, None) ∷ ms) h few good (suc j) some =
        let on : i + suc j ≡ suc i + j = omega arith in
        subst (λ k. Q (text_of_chain g es (chain_of es k)).seats) (sym on)
        (from-good (suc i) p ms (next-at i e (chained_from (suc i) p ms) h) (omega (arith, few)) good.1 j (λ z. some (ap (content_at es) on ∙ z)))
    from-good i p ((e, Some c) ∷ ms) h few good zero some =
        let here : i + 0 ≡ i = omega arith in
        subst (λ k. Q (text_of_chain g es (chain_of es k)).seats) (sym here) (subst Q (sym (chain-run i p e c ms h few)) good.0)
    from-good i p ((e, Some c) ∷ ms) h few good (suc j) some =
        let on : i + suc j ≡ suc i + j = omega arith in
        let x : Event = record e { link = Some (link_of i p c ms) } in
        subst (λ k. Q (text_of_chain g es (chain_of es k)).seats) (sym on)
        (from-good (suc i) (Some i) ms (next-at i x (chained_from (suc i) (Some i) ms) h) (omega (arith, few)) good.1 j (λ z. some (ap (content_at es) on ∙ z)))

  -- What holds of the runs of marks holds of the text of each chain of their events
  pub chains-good : (ms : List Mark) → Good ms → let es = chained_from 0 None ms in (c : ℕ) → (content_at es c ≡ None → ⊥) → Q (text_of_chain g es (chain_of es c)).seats
  chains-good ms good c some =
      let es = chained_from 0 None ms in
      let long = chained_length 0 None ms in
      let same : 0 + c ≡ c = omega arith in
      subst (λ k. Q (text_of_chain g es (chain_of es k)).seats) same (from-good es 0 None ms refl (omega (arith, long)) good c (λ z. some (sym (ap (content_at es) same) ∙ z)))
