use Rattle.markdown_children.proofs.Prelude.{◌≡◌, ◌++◌, map, take, table_place, chunk_edit, written, end_of}
use Rattle.markdown_children.proofs.weaving.push_parts.Given as goal

-- the parts of the chunks so far are written, with the events between them
abbrev pub invariant-loop-chunk : goal.invariant-loop-chunk
invariant-loop-chunk l =
    let es = map (chunk_edit (table_place l.chunks l.acc.0 l.acc.1) l.child) (take l.chunk-index l.chunks) in
    (l.woven.items ≡ l.fn.woven.items ++ written l.from es l.events) × (l.at ≡ end_of l.from es)
