use Rattle.mddocument.proofs.Prelude.{◌≡◌, line_at}
use Rattle.mddocument.proofs.ranges.counted.Given as goal

-- the line of the index reached
abbrev pub invariant-loop-index : goal.invariant-loop-index
invariant-loop-index l = l.line ≡ line_at l.bytes l.index
