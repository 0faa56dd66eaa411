use Rattle.markdown_edits.proofs.Prelude.{◌≡◌, ◌-◌, arith, no_span}
use Rattle.markdown_edits.proofs.SpanRuns.{IsLongestRunFrom-walk}
use Rattle.markdown_edits.proofs.skip.opt.Goals as goal

pub returns-then-index-events : goal.returns-then-index-events
returns-then-index-events c = IsLongestRunFrom-walk c.args.names.now c.args.events.now c.args.index c.run_end.result c.requires (omega arith) c.run_end.ensures

pub returns-else-index-events : goal.returns-else-index-events
returns-else-index-events c =
    let none : c.args.index - c.args.index ≡ 0 = omega arith in
    record { run = rw none no_span; order = omega arith; within = omega arith; longest = λ m k r. omega arith }
