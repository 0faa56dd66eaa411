use Rattle.markdown_edits.proofs.Prelude.{◌≡◌, ◌+◌, ◌≤◌, take, run_len, mirror}
use Rattle.markdown_edits.proofs.skip.run_start.Given as goal

abbrev pub invariant-loop-at : goal.invariant-loop-at
invariant-loop-at l = record {
  walk : l.index + 1 + run_len l.names l.depth (mirror (take l.at l.events)) ≡ l.at + run_len l.names 0 (mirror (take (l.index + 1) l.events));
  within : l.at ≤ l.index + 1;
  inside : l.depth + l.at ≤ l.index + 1;
}

abbrev pub decreases-loop-at : goal.decreases-loop-at
decreases-loop-at l = l.at
