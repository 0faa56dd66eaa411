use Rattle.markdown.proofs.Runs.Cuts.{IsAtCut}
use Rattle.mdexamples.proofs.spans.push_ranges.Given as goal

abbrev pub invariant-loop-cut : goal.invariant-loop-cut
invariant-loop-cut g l = IsAtCut g.M.Machine.rules l.fn.document l.fn.start l.cuts l.cut-index l.from l.tokenizer l.state
