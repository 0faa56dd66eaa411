use Rattle.std.proofs.Common.{ap, arith}
use Rattle.mdinline_links.proofs.Costs.{on-ok}
use Rattle.mdinline_links.specs.Costs.{to_write}
use Rattle.mdinline_links.proofs.brackets.linked.Goals as goal

pub returns-clause-linear : goal.returns-clause-linear
returns-clause-linear g c =
    let paid = c.in_ok-pieces.ensures.paid in
    let more = c.written.ensures.turns in
    let same = ap to_write c.as_slice.ensures.value in
    on-ok c.written.result _ (omega (arith, paid, more, same))
