use Rattle.markdown_tokenizer.proofs.Runs.Cuts.{IsAtCut}
use Rattle.markdown_tokenizer.proofs.tokenizer.running.read_cut.Given as goal

abbrev pub invariant-loop-cut : goal.invariant-loop-cut
invariant-loop-cut g l = IsAtCut g.M.Machine.rules l.fn.parse_state l.fn.start l.cuts l.cut-index l.from l.tokenizer l.state
