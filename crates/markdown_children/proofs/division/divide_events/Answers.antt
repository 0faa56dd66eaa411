use Rattle.markdown_children.proofs.Prelude.{◌≡◌, ℕ, ◌+◌, ◌≤◌, List, ◌++◌, map, length, ◌∙◌, ap, arith, All-from_recursion, Event, Edit, chain_of, place_at, rest_table, table_place, chunk_edit, Chunk}
use Rattle.markdown_children.proofs.Parts.Tabled.{length-table, table-ends, are-rising, within-table, total-parts, room, ks, ps, cs, long, chunks-above, inside, chunks-fit, table-edits, chunks-behind, sums-le}
use Rattle.markdown_children.proofs.division.divide_events.Goals as goal

table-at : (events xs ys : List Event) (i : ℕ) (bs ds : List Chunk) → bs ≡ ds → ds ≡ rest_table events xs (length events) i 0 → xs ≡ ys → bs ≡ rest_table events ys (length events) i 0
table-at events xs ys i bs ds d e f = d ∙ e ∙ ap (λ (zs : List Event). rest_table events zs (length events) i 0) f

pub edits_of-requires : goal.edits_of-requires
edits_of-requires c =
    let a = c.args in
    let t = table-at a.events.now _ a.child_events.now.items a.link_index _ _ c.deref.ensures.value c.in_ok-chunks.ensures c.as_slice.ensures.value in
    let events = a.events.now in
    let child = a.child_events.now.items in
    let i = a.link_index in
    let forward = c.requires.chain in
    let m = sums-le events child i forward a.map.now a.acc_before.0 c.requires.before c.requires.sums.0 in
    record {
      apart = rw t (chunks-above events child i forward a.acc_before.0 m);
      ends = rw t (table-ends (ks events child i forward) (ps events child i forward) 0);
      rising = rw t (are-rising events (length events) i 0 (ps events child i forward) forward);
      fits = rw (t, c.as_slice-2.ensures.value) (chunks-fit events child i forward a.acc_before.1 c.requires.ends c.requires.fits);
      within = rw (t, c.as_slice-2.ensures.value) (All-from_recursion (λ (d : Chunk). (d.start ≤ d.end) × (d.end ≤ length child)) (cs events child i forward)
          (within-table (length child) (ks events child i forward) (ps events child i forward) 0 (omega (arith, total-parts (map (λ k. place_at events (k + 1)) (chain_of events i)) child))));
    }

pub append-requires : goal.append-requires
append-requires c =
    let a = c.args in
    let t = table-at a.events.now _ a.child_events.now.items a.link_index _ _ c.deref.ensures.value c.in_ok-chunks.ensures c.as_slice.ensures.value in
    rw (c.in_ok-edits.ensures, t, c.as_slice-2.ensures.value) (chunks-behind a.events.now a.child_events.now.items a.link_index c.requires.chain a.map.now _ c.requires.before)

pub overflow_add-sums : goal.overflow_add-sums
overflow_add-sums c =
    let a = c.args in
    let events = a.events.now in
    let child = a.child_events.now.items in
    let i = a.link_index in
    let forward = c.requires.chain in
    let t = ap length (table-at events _ child i _ _ c.deref.ensures.value c.in_ok-chunks.ensures c.as_slice.ensures.value) in
    let m = sums-le events child i forward a.map.now a.acc_before.0 c.requires.before c.requires.sums.0 in
    let w = c.requires.within in
    let r = room (length events) a.acc_before.0 (cs events child i forward) (chunks-above events child i forward a.acc_before.0 m) (inside events child i forward) (omega arith) in
    omega (arith, t, ap length c.deref.ensures.value, r, c.requires.fits, c.len.ensures)

pub returns-clause-ok : goal.returns-clause-ok
returns-clause-ok c =
    let a = c.args in
    let t = table-at a.events.now _ a.child_events.now.items a.link_index _ _ c.deref.ensures.value c.in_ok-chunks.ensures c.as_slice.ensures.value in
    let w = c.requires.within in
    c.in_ok-append.ensures.ok.0 ∙ ap (λ (es : List Edit). a.map.now ++ es)
    (c.in_ok-edits.ensures ∙ (λ j. map (chunk_edit (table_place (t j) a.acc_before.0 a.acc_before.1) (c.as_slice-2.ensures.value j)) (t j))
    ∙ table-edits a.events.now a.child_events.now.items a.link_index c.requires.chain a.acc_before.0 a.acc_before.1 (omega arith))

pub returns-clause-sums : goal.returns-clause-sums
returns-clause-sums c =
    let a = c.args in
    let t = ap length (table-at a.events.now _ a.child_events.now.items a.link_index _ _ c.deref.ensures.value c.in_ok-chunks.ensures c.as_slice.ensures.value) in
    let many = length-table (ks a.events.now a.child_events.now.items a.link_index c.requires.chain) (ps a.events.now a.child_events.now.items a.link_index c.requires.chain) 0
    (long a.events.now a.child_events.now.items a.link_index c.requires.chain) in
    (omega (arith, t, ap length c.deref.ensures.value, many, c.len.ensures), omega (arith, c.len-2.ensures))
