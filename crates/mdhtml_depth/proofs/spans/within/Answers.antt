use Rattle.std.proofs.Common.{◌∙◌, ap, sym}
use Rattle.mdhtml_depth.proofs.Kept.{shallow-stays}
use Rattle.mdhtml_depth.proofs.spans.within.Goals as goal
use Rattle.mdhtml_depth.specs.Depth.{has_depth}

pub returns-then-has_depth-clause-events : goal.returns-then-has_depth-clause-events
returns-then-has_depth-clause-events c =
    let shallow = ap (has_depth c.args.limit 0) (sym c.as_slice.ensures.value) ∙ sym c.has_depth.ensures ∙ c.if-has_depth.true in
    sym (shallow-stays c.args.limit 0 c.args.events.items shallow)
