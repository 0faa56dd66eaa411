use Rattle.markdown_tokenizer.proofs.Runs.Pushes.{one-range}
use Rattle.markdown_tokenizer.proofs.laws.cuts_leave_no_trace.Goals as goal

pub returns : goal.returns
returns c g text a b e d is first second = one-range g text a b e d is first second
