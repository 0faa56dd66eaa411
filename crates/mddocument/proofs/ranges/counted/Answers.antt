use Rattle.mddocument.proofs.Prelude.{arith, line_at-le}
use Rattle.mddocument.proofs.ranges.counted.Goals as goal

pub overflow_add-line : goal.overflow_add-line
overflow_add-line c = let short = c.requires.short in omega (arith, line_at-le c.args.bytes.now c.loop-index.index, c.loop-index.invariant, c.requires.inside, short)
