use Rattle.markdown.proofs.Runs.Cuts.{at-start, at-next, at-end}
use Rattle.mdexamples.proofs.spans.push_ranges.Goals as goal

pub loop-cut-init : goal.loop-cut-init
loop-cut-init g c = at-start g.met.M.Machine.lawful c.requires.document c.requires.start c.requires.cuts _ c.requires.begins

pub loop-cut-preserved : goal.loop-cut-preserved
loop-cut-preserved g c = at-next c.loop-cut.invariant _ _ c.loop-cut-test.true c.in_ok-state.ensures.ok

pub flush-requires : goal.flush-requires
flush-requires g c = record { holds = λ _. at-end c.loop-cut.invariant _ _ c.in_ok-state-2.ensures.ok }
