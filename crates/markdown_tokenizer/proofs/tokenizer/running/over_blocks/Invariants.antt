use Rattle.markdown_tokenizer.proofs.Prelude.{◌-◌, ℕ, ◌≤◌, ◌<◌, slice_index, IsByteOver}
use Rattle.markdown_tokenizer.proofs.tokenizer.running.over_blocks.Given as goal

abbrev pub invariant-loop-at : goal.invariant-loop-at
invariant-loop-at g l = record {
  from : l.from ≤ l.at;
  until : l.from < l.at → l.at ≤ l.until;
  over : (k : ℕ) → l.from ≤ k → k < l.at → IsByteOver (g.M.Machine.rules l.machine) l.fn.name (slice_index l.bytes k);
}

abbrev pub decreases-loop-at : goal.decreases-loop-at
decreases-loop-at g l = l.until - l.at
