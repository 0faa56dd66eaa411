use Rattle.markdown_children.proofs.Prelude.{◌≡◌, ℕ, zero, suc, ◌<◌, List, [], ◌∷◌, ◌++◌, length, map, take, get_or, Option, refl, sym, ◌∙◌, ap, arith, add-one, AllByRecursion, take-suc, ne_eqb, map-append, Event, Edit, put_after, removal_at, put-last, table_place, AreRising, chunk_edit, Chunk, All-from_recursion}
use Rattle.markdown_children.proofs.division.edits_of.Goals as goal

removal-none : (es : List Edit) (i : ℕ) → AllByRecursion (λ (e : Edit). e.index < i) es → removal_at es i ≡ 0
removal-none [] i h = refl
removal-none (e ∷ es) i h = let l : e.index < i = h.0 in let ne = ne_eqb e.index i (omega arith) in rw (ne, removal-none es i h.1) refl

edits-below : (f : ℕ → Option ℕ) (child : List Event) (cs : List Chunk) (i : ℕ) (d : Chunk) → AreRising cs → i < length cs
    → AllByRecursion (λ (e : Edit). e.index < (get_or cs i d).index) (map (chunk_edit f child) (take i cs))
edits-below f child [] i d h l = absurd (omega arith)
edits-below f child (c ∷ cs) zero d h l = tt
edits-below f child (c ∷ cs) (suc i) d h l = (All-from_recursion (λ (e : Chunk). c.index < e.index) cs h.0 i d (omega arith), edits-below f child cs i d h.1 (omega arith))

pub add_part-requires : goal.add_part-requires
add_part-requires c =
    let cs = c.args.chunks.now in
    let f = table_place cs c.args.acc.0 c.args.acc.1 in
    let i = c.loop-chunk.chunk-index in
    let d : Chunk = record { index = 0; start = 0; end = 0 } in
    let none = ap (λ (es : List Edit). removal_at es (get_or cs i d).index) c.loop-chunk.invariant
    ∙ removal-none (map (chunk_edit f c.args.child.now) (take i cs)) (get_or cs i d).index (edits-below f c.args.child.now cs i d c.requires.rising c.loop-chunk-test.true) in
    record { sum_fits = λ _. rw none (omega arith) }

pub loop-chunk-preserved : goal.loop-chunk-preserved
loop-chunk-preserved c =
    let cs = c.args.chunks.now in
    let f = table_place cs c.args.acc.0 c.args.acc.1 in
    let edit = chunk_edit f c.args.child.now in
    let i = c.loop-chunk.chunk-index in
    let d : Chunk = record { index = 0; start = 0; end = 0 } in
    c.in_ok-add_part.ensures.ok
    ∙ ap (λ (xs : List Event). put_after c.loop-chunk.edits (record { index = (get_or cs i d).index; remove = 2; additions = xs })) (c.deref.ensures.value ∙ c.in_ok-place_part.ensures)
    ∙ ap (λ (es : List Edit). put_after es (edit (get_or cs i d))) c.loop-chunk.invariant
    ∙ put-last (λ there more. there ++ more) (map edit (take i cs)) (edit (get_or cs i d)) (edits-below f c.args.child.now cs i d c.requires.rising c.loop-chunk-test.true)
    ∙ sym (ap (λ n. map edit (take n cs)) (add-one i) ∙ ap (map edit) (take-suc cs i d c.loop-chunk-test.true) ∙ map-append edit (take i cs) (get_or cs i d ∷ []))
