use Rattle.mddocument_editing.proofs.Prelude.{subst}
use Rattle.mddocument_editing.specs.Said.{said_by}
use Rattle.mddocument_editing.specs.Told.{ArePushed, Goes, visits_of}
use Rattle.mddocument_editing.proofs.Visits.{goes-end, goes-on}
use Rattle.mddocument_editing.proofs.told.push_nears.Goals as goal

pub loop-visit-init : goal.loop-visit-init
loop-visit-init c = λ after. subst (λ side. Goes (ArePushed (said_by c.args.touched.now)) (visits_of side) c.args.near.now after) c.into_iter-visit-iterator.ensures.into_iter_gives

pub loop-visit-preserved : goal.loop-visit-preserved
loop-visit-preserved c = λ after rest. c.loop-visit.invariant after
    (goes-on (ArePushed (said_by c.args.touched.now)) c.loop-visit.visit-iterator c.next.new.self _ _ c.loop-visit.near c.push_near.new.near c.in-Some.is c.next.ensures.steps c.in_ok-push_near.ensures after rest)

pub returns : goal.returns
returns c =
    c.loop-visit.invariant c.loop-visit.near (goes-end (ArePushed (said_by c.args.touched.now)) c.loop-visit.visit-iterator c.next.new.self _ c.loop-visit.near c.in-None.is c.next.ensures.steps)
