use Rattle.markdown_children.proofs.Prelude.{◌≡◌, map, take, table_place, chunk_edit}
use Rattle.markdown_children.proofs.division.edits_of.Given as goal

abbrev pub invariant-loop-chunk : goal.invariant-loop-chunk
invariant-loop-chunk l = l.edits ≡ map (chunk_edit (table_place l.chunks l.acc.0 l.acc.1) l.child) (take l.chunk-index l.chunks)
