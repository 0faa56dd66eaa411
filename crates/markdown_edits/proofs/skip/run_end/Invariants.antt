use Rattle.markdown_edits.proofs.Prelude.{◌≡◌, ◌+◌, ◌-◌, ◌≤◌, length, drop, run_len}
use Rattle.markdown_edits.proofs.skip.run_end.Given as goal

abbrev pub invariant-loop-at : goal.invariant-loop-at
invariant-loop-at l = record {
  walk : l.at + run_len l.names l.depth (drop l.at l.events) ≡ l.index + run_len l.names 0 (drop l.index l.events);
  inside : l.depth ≤ l.at;
  room : l.at ≤ length l.events;
}

abbrev pub decreases-loop-at : goal.decreases-loop-at
decreases-loop-at l = length l.initial.events - l.at
