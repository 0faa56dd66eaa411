use Rattle.std.proofs.Common.{◌≡◌, ◌<◌, ℕ, true}
use Rattle.std.specs.Prelude.{slice_index}
use Rattle.mdblock_leaf_machine.proofs.over.are_in_line.Given as goal

-- if all are greater so far, each is
abbrev pub invariant-loop-byte : goal.invariant-loop-byte
invariant-loop-byte l = l.all ≡ true → (k : ℕ) → k < l.byte-index → 13 < slice_index l.block k
