use Rattle.std.proofs.Common.{◌≡◌, ◌≤◌, ◌<◌, ◌⊎◌, ℕ, get_or, length}
use Rattle.mddocument_editing.specs.declared.list.Sums.{Sums}
use Rattle.mddocument_editing.specs.Listed.{AreSums, block}
use Rattle.mddocument_editing.proofs.list.sum_again.Given as goal

abbrev pub invariant-loop-number : goal.invariant-loop-number
invariant-loop-number l = record {
  len : length l.blocks.items ≡ length l.fn.blocks.items;
  each : (number : ℕ) (d : Sums) → l.from ≤ number → number < l.number → AreSums (block number l.sections) (get_or l.blocks.items number d);
  same : (number : ℕ) (d : Sums) → (number < l.from) ⊎ (l.number ≤ number) → get_or l.blocks.items number d ≡ get_or l.fn.blocks.items number d;
}
