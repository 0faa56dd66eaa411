use Rattle.std.proofs.Common.{◌∙◌, sym, ap, arith}
use Rattle.mdgfm_literals.specs.Grammar.{goes_on}
use Rattle.mdgfm_literals.proofs.ByteLemmas.{host_next}
use Rattle.mdgfm_events.proofs.Slices.{tail}
use Rattle.mdgfm_literals.proofs.addresses.host_size.Goals as goal

pub loop-next-preserved : goal.loop-next-preserved
loop-next-preserved c =
    let text = c.args.text.now in
    let next = c.loop-next.next in
    let goes = ap goes_on (sym (tail next text)) ∙ sym c.goes_on.ensures ∙ c.if-not-goes_on.false in
    record { same = host_next text next _ c.loop-next-test.true goes c.loop-next.invariant.same; room = omega (arith, c.loop-next-test.true) }
