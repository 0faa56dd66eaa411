use Rattle.markdown_edits.proofs.Prelude.{◌≡◌, ◌++◌, ◌≤◌, length, take, edits_of}
use Rattle.markdown_edits.proofs.tree.push_all.Given as goal

abbrev pub invariant-loop-index : goal.invariant-loop-index
invariant-loop-index l = record {
  built : l.pool ++ edits_of l.index-iterator ≡ l.fn.pool ++ edits_of l.edits.entries;
  front : take l.len l.pool ≡ l.fn.pool;
  room : l.len ≤ length l.pool;
}
