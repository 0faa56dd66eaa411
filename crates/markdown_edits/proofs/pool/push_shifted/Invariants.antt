use Rattle.markdown_edits.proofs.Prelude.{◌≡◌, ◌+◌, ◌-◌, ◌≤◌, ◌++◌, length, map, take, moved_by}
use Rattle.markdown_edits.proofs.pool.push_shifted.Given as goal

abbrev pub invariant-loop-entry : goal.invariant-loop-entry
invariant-loop-entry l = record {
  built : l.entries.items ≡ l.fn.entries.items ++ map (moved_by l.shift) (take l.entry-index l.more);
  room : l.entries.len + (length l.more - l.entry-index) ≤ l.entries.cap;
}
