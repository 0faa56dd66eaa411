use Rattle.mddocument_editing.proofs.Prelude.{subst}
use Rattle.mddocument_editing.specs.Told.{Goes, IsAgain, visits_of}
use Rattle.mddocument_editing.proofs.Visits.{goes-end, goes-on}
use Rattle.mddocument_editing.proofs.told.push_rereads.Goals as goal

pub loop-visit-init : goal.loop-visit-init
loop-visit-init c = λ after. subst (λ side. Goes IsAgain (visits_of side) c.args.all.now.items after) c.into_iter-visit-iterator.ensures.into_iter_gives

pub loop-visit-preserved : goal.loop-visit-preserved
loop-visit-preserved c = λ after rest. c.loop-visit.invariant after
    (goes-on IsAgain c.loop-visit.visit-iterator c.next.new.self _ _ c.loop-visit.all.items c.push_again.new.all.items c.in-Some.is c.next.ensures.steps c.in_ok-push_again.ensures after rest)

pub returns : goal.returns
returns c = c.loop-visit.invariant c.loop-visit.all.items (goes-end IsAgain c.loop-visit.visit-iterator c.next.new.self _ c.loop-visit.all.items c.in-None.is c.next.ensures.steps)
