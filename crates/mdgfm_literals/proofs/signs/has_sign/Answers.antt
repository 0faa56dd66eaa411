use Rattle.std.proofs.Common.{◌∙◌, sym, ap, arith}
use Rattle.mdgfm_literals.specs.Signs.{begins_sign}
use Rattle.mdgfm_literals.proofs.NoSigns.{sign-next}
use Rattle.mdgfm_events.proofs.Slices.{tail}
use Rattle.mdgfm_literals.proofs.signs.has_sign.Goals as goal

pub loop-next-preserved : goal.loop-next-preserved
loop-next-preserved c =
    let text = c.args.text.now in
    let next = c.loop-next.next in
    let first = ap begins_sign (sym (tail next text)) ∙ sym c.begins_sign.ensures ∙ c.if-begins_sign.false in
    record { same = sign-next text next c.loop-next-test.true first ∙ c.loop-next.invariant.same; room = omega (arith, c.loop-next-test.true) }
