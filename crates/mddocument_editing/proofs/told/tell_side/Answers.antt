use Rattle.mddocument_editing.proofs.Prelude.{subst}
use Rattle.mddocument_editing.specs.Said.{said_by}
use Rattle.mddocument_editing.specs.Told.{Goes, IsToldNext, visit_of, visits_of}
use Rattle.mddocument_editing.proofs.ToldOthers.{pushed}
use Rattle.mddocument_editing.proofs.Visits.{goes-end, goes-on}
use Rattle.mddocument_editing.proofs.told.tell_side.Goals as goal

pub loop-visit-init : goal.loop-visit-init
loop-visit-init c = λ after goes.
    let tells = IsToldNext (said_by c.args.leading.now.old) (said_by c.args.leading.now.new) in
    subst (λ os. Goes tells (visits_of c.args.side) os after) c.new-told.ensures.items
    (subst (λ side. Goes tells (visits_of side) c.new-told.result.items after) c.into_iter-visit-iterator.ensures.into_iter_gives goes)

pub loop-visit-preserved : goal.loop-visit-preserved
loop-visit-preserved c = λ after rest.
    let before = c.loop-visit.told.items in
    let now = c.push_other.new.told.items in
    let v = c.in-Some.visit in
    let why = c.what_is_new-why.result in
    let one : IsToldNext (said_by c.args.leading.now.old) (said_by c.args.leading.now.new) (visit_of v) before now = (why, (c.what_is_new-why.ensures, pushed v.number why before now c.in_ok-push_other.ensures.none c.in_ok-push_other.ensures.some)) in
    c.loop-visit.invariant after
    (goes-on (IsToldNext (said_by c.args.leading.now.old) (said_by c.args.leading.now.new)) c.loop-visit.visit-iterator c.next.new.self v _ before now c.in-Some.is c.next.ensures.steps one after rest)

pub returns : goal.returns
returns c =
    c.loop-visit.invariant c.loop-visit.told.items
    (goes-end (IsToldNext (said_by c.args.leading.now.old) (said_by c.args.leading.now.new)) c.loop-visit.visit-iterator c.next.new.self _ c.loop-visit.told.items c.in-None.is c.next.ensures.steps)
