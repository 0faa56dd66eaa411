use Rattle.markdown_children.proofs.Prelude.{◌≡◌, ℕ, zero, suc, ◌+◌, ◌-◌, ◌*◌, ◌<◌, ◌≤◌, leb, List, [], ◌∷◌, length, get_or, Some, None, refl, ap, ◌∙◌, arith, rules, le-ltb, nat_tests, leb-true, leb-false, IsPartitionPoint-from_clause, IsPartitionedBy-leb, table_place, AreAbove, Chunk}
use Rattle.markdown_children.proofs.division.place_in.Goals as goal

-- before the chunk at i, two events are removed for each earlier chunk
above-at : (cs : List Chunk) (i removed : ℕ) (d : Chunk) → i < length cs → AreAbove removed cs → removed + 2 * i ≤ (get_or cs i d).index
above-at [] i removed d l h = absurd (omega arith)
above-at (c ∷ cs) zero removed d l h = let a : removed ≤ c.index = h.0 in omega arith
above-at (c ∷ cs) (suc i) removed d l h = omega (arith, above-at cs i (removed + 2) d (omega arith) h.1)

-- the first chunk that ends after event n decides its final place
place-first : (cs : List Chunk) (i removed added n : ℕ) (d : Chunk) → i < length cs → ((k : ℕ) (e : Chunk) → k < i → (get_or cs k e).end ≤ n) → n < (get_or cs i d).end
    → Some ((get_or cs i d).index - (removed + 2 * i) + added + n) ≡ table_place cs removed added n
place-first [] i removed added n d l front is = absurd (omega arith)
place-first (c ∷ cs) zero removed added n d l front is = grind (arith, nat_tests)
place-first (c ∷ cs) (suc i) removed added n d l front is =
    let passed : c.end ≤ n = front 0 d (omega arith) in
    let z : (get_or cs i d).index - (removed + 2 * suc i) + added + n ≡ (get_or cs i d).index - (removed + 2 + 2 * i) + added + n = omega arith in
    rw (le-ltb n c.end passed) (ap Some z ∙ place-first cs i (removed + 2) added n d (omega arith) (λ k e m. front (suc k) e (omega arith)) is)

-- if no chunk does, it has no final place
place-none : (cs : List Chunk) (removed added n : ℕ) → ((k : ℕ) (e : Chunk) → k < length cs → (get_or cs k e).end ≤ n) → None ≡ table_place cs removed added n
place-none [] removed added n front = refl
place-none (c ∷ cs) removed added n front =
    let passed : c.end ≤ n = front 0 c (omega arith) in
    rw (le-ltb n c.end passed) (place-none cs (removed + 2) added n (λ k e m. front (suc k) e (omega arith)))

pub returns-in_err-chunk : goal.returns-in_err-chunk
returns-in_err-chunk c =
    let cs = c.args.chunks.now in
    let i = c.partition_point-passed.result in
    let p = IsPartitionPoint-from_clause (λ (k : Chunk). leb k.end c.args.index) cs i c.partition_point-passed.ensures.partitioned (IsPartitionedBy-leb (λ k. k.end) cs c.args.index c.requires.ends) (λ a r q k. search rules) in
    let past : length cs ≤ i = c.in_err-chunk.ensures.lookup.3 in
    c.from_residual.ensures ∙ place-none cs c.args.acc.0 c.args.acc.1 c.args.index (λ k e m. leb-true (get_or cs k e).end c.args.index (p.0 k e (omega arith) (omega arith)))

-- the chunk's index is at least the number of events that are removed before it, and fits
pub overflow_add-removed : goal.overflow_add-removed
overflow_add-removed c =
    let h = c.in_ok-chunk.ensures.lookup.3 in
    let d = c.in_ok-chunk.chunk.now in
    let above = above-at c.args.chunks.now c.partition_point-passed.result c.args.acc.0 d h.0 c.requires.apart in
    omega (arith, above, c.requires.fits c.partition_point-passed.result d h.0)

pub overflow_sub-result : goal.overflow_sub-result
overflow_sub-result c =
    let h = c.in_ok-chunk.ensures.lookup.3 in
    let d = c.in_ok-chunk.chunk.now in
    let above = above-at c.args.chunks.now c.partition_point-passed.result c.args.acc.0 d h.0 c.requires.apart in
    omega (arith, above, ap (λ (k : Chunk). k.index) (h.1 d))

pub returns : goal.returns
returns c =
    let cs = c.args.chunks.now in
    let i = c.partition_point-passed.result in
    let p = IsPartitionPoint-from_clause (λ (k : Chunk). leb k.end c.args.index) cs i c.partition_point-passed.ensures.partitioned (IsPartitionedBy-leb (λ k. k.end) cs c.args.index c.requires.ends) (λ a r q k. search rules) in
    let h = c.in_ok-chunk.ensures.lookup.3 in
    let d = c.in_ok-chunk.chunk.now in
    let l : i < length cs = h.0 in
    ap (λ (k : Chunk). Some (k.index - (c.args.acc.0 + 2 * i) + c.args.acc.1 + c.args.index)) (h.1 d)
    ∙ place-first cs i c.args.acc.0 c.args.acc.1 c.args.index d l (λ k e m. leb-true (get_or cs k e).end c.args.index (p.0 k e (omega arith) m))
    (leb-false (get_or cs i d).end c.args.index (p.1 i d (omega arith) l))
