use Rattle.std.proofs.Common.{◌∙◌, reverse}
use Rattle.std.proofs.lemmas.Option.{MatchOption-at_some}
use Rattle.mdhtml_markup.proofs.CheckSteps.{mark-less, mark-over}
use Rattle.mdhtml_markup.proofs.checks.passes.Goals as goal

pub loop-rest-smaller : goal.loop-rest-smaller
loop-rest-smaller c =
    let read = MatchOption-at_some _ _ c.in-Some.next c.in-Some.is c.in_ok-behind_mark.ensures in
    mark-less (reverse c.loop-rest.tags.items) c.loop-rest.rest.now (reverse c.behind_mark.new.tags.items) c.in-Some.next.now c.loop-rest-test.true read

pub loop-rest-preserved : goal.loop-rest-preserved
loop-rest-preserved c =
    let read = MatchOption-at_some _ _ c.in-Some.next c.in-Some.is c.in_ok-behind_mark.ensures in
    c.loop-rest.invariant
    ∙ mark-over (reverse c.loop-rest.tags.items) c.loop-rest.rest.now (reverse c.behind_mark.new.tags.items) c.in-Some.next.now c.loop-rest-test.true c.if-rest-ne60.false read
