use Rattle.markdown_children.proofs.Prelude.{◌≡◌, ℕ, suc, ◌+◌, ◌<◌, ◌≤◌, List, [], ◌∷◌, ◌++◌, length, map, take, drop, get_or, Option, sym, ◌∙◌, ap, subst, arith, add-one, take-suc, take-append-drop, map-append, append_assoc, between, Event, AreDisjoint, Chunk, chunk_edit, table_place, drop-cons, written, end_of}
use Rattle.markdown_children.proofs.Parts.Written.{end_of-append, next-behind, written-push}
use Rattle.markdown_children.proofs.weaving.push_parts.Goals as goal

module _ (f : ℕ → Option ℕ) (child : List Event) where
  -- the edits of the chunks up to one of them, that one's, and the others
  edits-split : (cs : List Chunk) (i : ℕ) (d : Chunk) → i < length cs
      → map (chunk_edit f child) cs ≡ map (chunk_edit f child) (take i cs) ++ chunk_edit f child (get_or cs i d) ∷ map (chunk_edit f child) (drop (suc i) cs)
  edits-split cs i d l =
      ap (map (chunk_edit f child)) (sym (take-append-drop i cs) ∙ ap (λ ds. take i cs ++ ds) (drop-cons cs i d l)) ∙ map-append (chunk_edit f child) (take i cs) (get_or cs i d ∷ drop (suc i) cs)

  edits-more : (cs : List Chunk) (i : ℕ) (d : Chunk) → i < length cs
      → map (chunk_edit f child) (take (i + 1) cs) ≡ map (chunk_edit f child) (take i cs) ++ chunk_edit f child (get_or cs i d) ∷ []
  edits-more cs i d l = ap (λ n. map (chunk_edit f child) (take n cs)) (add-one i) ∙ ap (map (chunk_edit f child)) (take-suc cs i d l) ∙ map-append (chunk_edit f child) (take i cs) (get_or cs i d ∷ [])

  -- the next chunk begins behind what is written, and ends inside the list
  next-chunk : (cs : List Chunk) (i from n : ℕ) (d : Chunk) → i < length cs → AreDisjoint from (map (chunk_edit f child) cs) n
      → (end_of from (map (chunk_edit f child) (take i cs)) ≤ (get_or cs i d).index) × ((get_or cs i d).index + 2 ≤ n)
  next-chunk cs i from n d l h = next-behind from n (map (chunk_edit f child) (take i cs)) (chunk_edit f child (get_or cs i d)) (map (chunk_edit f child) (drop (suc i) cs)) (subst (λ es. AreDisjoint from es n) (edits-split cs i d l) h)

  one-more : (cs : List Chunk) (i from : ℕ) (d : Chunk) (events old now : List Event) → i < length cs → now ≡ old ++ written from (map (chunk_edit f child) (take i cs)) events
      → (now ++ between (end_of from (map (chunk_edit f child) (take i cs))) (get_or cs i d).index events) ++ (chunk_edit f child (get_or cs i d)).additions
      ≡ old ++ written from (map (chunk_edit f child) (take (i + 1) cs)) events
  one-more cs i from d events old now l is =
      let es = map (chunk_edit f child) (take i cs) in
      let one = chunk_edit f child (get_or cs i d) in
      let gap = between (end_of from es) one.index events in
      ap (λ xs. (xs ++ gap) ++ one.additions) is ∙ ap (λ xs. xs ++ one.additions) (append_assoc old (written from es events) gap)
      ∙ append_assoc old (written from es events ++ gap) one.additions ∙ ap (λ xs. old ++ xs) (sym (written-push from es one events))
      ∙ ap (λ ds. old ++ written from ds events) (sym (edits-more cs i d l))

pub push_between-requires-clause-order : goal.push_between-requires-clause-order
push_between-requires-clause-order c =
    let next = next-chunk (table_place c.args.chunks.now c.args.acc.0 c.args.acc.1) c.args.child.now c.args.chunks.now c.loop-chunk.chunk-index c.args.from (length c.args.events.now) (record { index = 0; start = 0; end = 0 }) c.loop-chunk-test.true c.requires.disjoint in
    omega (arith, next.0, c.loop-chunk.invariant.1)

pub push_between-requires-clause-within : goal.push_between-requires-clause-within
push_between-requires-clause-within c =
    let next = next-chunk (table_place c.args.chunks.now c.args.acc.0 c.args.acc.1) c.args.child.now c.args.chunks.now c.loop-chunk.chunk-index c.args.from (length c.args.events.now) (record { index = 0; start = 0; end = 0 }) c.loop-chunk-test.true c.requires.disjoint in
    omega (arith, next.1)

pub overflow_add-at : goal.overflow_add-at
overflow_add-at c =
    let next = next-chunk (table_place c.args.chunks.now c.args.acc.0 c.args.acc.1) c.args.child.now c.args.chunks.now c.loop-chunk.chunk-index c.args.from (length c.args.events.now) (record { index = 0; start = 0; end = 0 }) c.loop-chunk-test.true c.requires.disjoint in
    omega (arith, next.1)

pub loop-chunk-preserved : goal.loop-chunk-preserved
loop-chunk-preserved c =
    let f = table_place c.args.chunks.now c.args.acc.0 c.args.acc.1 in
    let child = c.args.child.now in
    let cs = c.args.chunks.now in
    let i = c.loop-chunk.chunk-index in
    let d : Chunk = record { index = 0; start = 0; end = 0 } in
    let events = c.args.events.now in
    let one = chunk_edit f child (get_or cs i d) in (
      c.in_ok-push_part.ensures ∙ ap (λ xs. xs ++ one.additions) (c.in_ok-push_between.ensures ∙ (λ j. c.loop-chunk.woven.items ++ between (c.loop-chunk.invariant.1 j) one.index events))
          ∙ one-more f child cs i c.args.from d events c.args.woven.now.items c.loop-chunk.woven.items c.loop-chunk-test.true c.loop-chunk.invariant.0,
      sym (ap (end_of c.args.from) (edits-more f child cs i d c.loop-chunk-test.true) ∙ end_of-append c.args.from (map (chunk_edit f child) (take i cs)) (one ∷ [])),
    )
