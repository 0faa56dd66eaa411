use Rattle.markdown_children.proofs.Prelude.{◌≡◌, ℕ, ◌+◌, ◌<◌, ◌≤◌, ◌^◌, List, ◌++◌, length, map, ◌∙◌, ap, arith, All-from_recursion, AllByRecursion, Event, Edit, chain_of, place_at, IsForward, table_place, chunk_edit, Chunk, rules, edits_of_chain, written, end_of}
use Rattle.markdown_children.proofs.Parts.Tabled.{length-table, table-ends, within-table, total-parts, ks, ps, cs, long, chunks-above, chunks-fit, table-edits, chunks-apart}
use Rattle.markdown_children.proofs.weaving.push_child.Goals as goal

pub push_parts-requires-clause-apart : goal.push_parts-requires-clause-apart
push_parts-requires-clause-apart c =
    let a = c.args in
    let t = c.as_slice-chunks.ensures.value ∙ c.in_ok-set_chunks.ensures in
    rw t (chunks-above a.events.now a.child.now a.link_index c.requires.chain a.acc.0 c.requires.removed)

pub push_parts-requires-clause-ends : goal.push_parts-requires-clause-ends
push_parts-requires-clause-ends c =
    let a = c.args in
    let t = c.as_slice-chunks.ensures.value ∙ c.in_ok-set_chunks.ensures in
    rw t (table-ends (ks a.events.now a.child.now a.link_index c.requires.chain) (ps a.events.now a.child.now a.link_index c.requires.chain) 0)

pub push_parts-requires-clause-fits : goal.push_parts-requires-clause-fits
push_parts-requires-clause-fits c =
    let a = c.args in
    let t = c.as_slice-chunks.ensures.value ∙ c.in_ok-set_chunks.ensures in
    let fits : length a.events.now + a.acc.1 + length a.child.now < 2 ^ 64 = search rules in
    rw t (chunks-fit a.events.now a.child.now a.link_index c.requires.chain a.acc.1 c.requires.ends fits)

pub push_parts-requires-clause-within : goal.push_parts-requires-clause-within
push_parts-requires-clause-within c =
    let a = c.args in
    let t = c.as_slice-chunks.ensures.value ∙ c.in_ok-set_chunks.ensures in
    let child = a.child.now in
    rw t (All-from_recursion (λ (d : Chunk). (d.start ≤ d.end) × (d.end ≤ length child)) (cs a.events.now child a.link_index c.requires.chain)
    (within-table (length child) (ks a.events.now child a.link_index c.requires.chain) (ps a.events.now child a.link_index c.requires.chain) 0
    (omega (arith, total-parts (map (λ k. place_at a.events.now (k + 1)) (chain_of a.events.now a.link_index)) child))))

pub push_parts-requires-clause-disjoint : goal.push_parts-requires-clause-disjoint
push_parts-requires-clause-disjoint c =
    let a = c.args in
    let t = c.as_slice-chunks.ensures.value ∙ c.in_ok-set_chunks.ensures in
    let w = c.requires.within in
    rw t (chunks-apart a.events.now a.child.now a.link_index c.requires.chain _ a.from c.requires.before (omega arith))

-- the edits of the chunks are those of the chain
are-edits : (events child : List Event) (i : ℕ) (acc : ℕ × ℕ) (chunks : List Chunk) (forward : AllByRecursion (IsForward events) (chain_of events i)) → i < length events → chunks ≡ cs events child i forward
    → map (chunk_edit (table_place chunks acc.0 acc.1) child) chunks ≡ edits_of_chain acc events i child
are-edits events child i acc chunks forward l t =
    (λ j. map (chunk_edit (table_place (t j) acc.0 acc.1) child) (t j)) ∙ table-edits events child i forward acc.0 acc.1 l

pub returns-clause-written : goal.returns-clause-written
returns-clause-written c =
    let a = c.args in
    let t = c.as_slice-chunks.ensures.value ∙ c.in_ok-set_chunks.ensures in
    let w = c.requires.within in
    c.in_ok-end.ensures.written
    ∙ ap (λ (es : List Edit). a.woven.now.items ++ written a.from es a.events.now) (are-edits a.events.now a.child.now a.link_index a.acc c.as_slice-chunks.result.now c.requires.chain (omega arith) t)

pub returns-clause-end : goal.returns-clause-end
returns-clause-end c =
    let a = c.args in
    let t = c.as_slice-chunks.ensures.value ∙ c.in_ok-set_chunks.ensures in
    let w = c.requires.within in
    c.in_ok-end.ensures.end ∙ ap (end_of a.from) (are-edits a.events.now a.child.now a.link_index a.acc c.as_slice-chunks.result.now c.requires.chain (omega arith) t)

pub returns-clause-sums : goal.returns-clause-sums
returns-clause-sums c =
    let a = c.args in
    let t = ap length (c.as_slice-chunks.ensures.value ∙ c.in_ok-set_chunks.ensures) in
    let many = length-table (ks a.events.now a.child.now a.link_index c.requires.chain) (ps a.events.now a.child.now a.link_index c.requires.chain) 0
    (long a.events.now a.child.now a.link_index c.requires.chain) in
    (omega (arith, t, many), omega arith)
