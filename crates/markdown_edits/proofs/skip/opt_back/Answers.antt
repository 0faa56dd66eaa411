use Rattle.markdown_edits.proofs.Mirrors.{IsLongestRunTo-walk}
use Rattle.markdown_edits.proofs.skip.opt_back.Goals as goal

pub returns-then-index-events-clause-skipped : goal.returns-then-index-events-clause-skipped
returns-then-index-events-clause-skipped c = λ l.
    (c.run_start.result, IsLongestRunTo-walk c.args.names.now c.args.events.now c.args.index c.run_start.result c.requires l c.run_start.ensures, c.saturating_sub.ensures)
