use Rattle.mddocument.proofs.Prelude.{HasNoLineEnding}
use Rattle.mddocument.proofs.ranges.has_no_line_ending.Given as goal

-- up to the index reached there is none
abbrev pub invariant-loop-index : goal.invariant-loop-index
invariant-loop-index l = HasNoLineEnding l.bytes l.from l.index
