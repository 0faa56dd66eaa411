use Rattle.markdown_edits.proofs.Prelude.{◌≡◌, ◌≤◌, length, take}
use Rattle.markdown_edits.proofs.tree.truncate.Given as goal

abbrev pub invariant-loop-edits : goal.invariant-loop-edits
invariant-loop-edits l = record {
  front : take l.len l.edits.entries ≡ take l.len l.fn.edits.entries;
  room : l.len ≤ length l.edits.entries;
}

abbrev pub decreases-loop-edits : goal.decreases-loop-edits
decreases-loop-edits l = length l.edits.entries
