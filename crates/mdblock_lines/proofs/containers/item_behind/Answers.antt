use Rattle.std.proofs.Common.{arith}
use Rattle.mdblock_lines.proofs.LineLemmas.{item_paid}
use Rattle.mdblock_lines.proofs.containers.item_behind.Goals as goal

pub returns-then-may_stand-clause-found : goal.returns-then-may_stand-clause-found
returns-then-may_stand-clause-found g c =
    let paid = item_paid c.args.r.now c.behind-after.result.now c.args.columns c.args.n c.item_of.result.size c.indent-white.result c.behind-after.ensures.value c.indent-white.ensures.value c.item_of.ensures.least in
    omega (arith, paid, c.indent-white.ensures.turns, c.if-may_stand.ensures.turns, c.front.ensures.len)
