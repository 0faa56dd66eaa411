use Rattle.mddocument_editing.proofs.Prelude.{sym, ◌∙◌, arith}
use Rattle.mddocument_editing.proofs.NearCuts.{line-begins}
use Rattle.mddocument_editing.proofs.recut.first_line_end.Goals as goal

pub returns-then-ends_line-clause-line : goal.returns-then-ends_line-clause-line
returns-then-ends_line-clause-line c less = line-begins c.args.bytes.now c.loop-index.index (omega (arith, c.loop-index-test.true)) (sym c.ends_line.ensures.end ∙ c.if-ends_line.true)
