use Rattle.markdown_edits.proofs.Prelude.{◌≡◌, ◌++◌, ◌≤◌, length, take, edits_of}
use Rattle.markdown_edits.proofs.tree.push_copies.Given as goal

abbrev pub invariant-loop-index : goal.invariant-loop-index
invariant-loop-index l = record {
  built : edits_of l.edits.entries ++ edits_of l.index-iterator ≡ edits_of l.fn.edits.entries ++ edits_of l.more.entries;
  front : take l.len (edits_of l.edits.entries) ≡ edits_of l.fn.edits.entries;
  room : l.len ≤ length l.edits.entries;
}
