use Rattle.markdown_children.proofs.Prelude.{length, arith, refl, sym, ◌∙◌}
use Rattle.markdown_children.proofs.ChainOrder.Turns.{left_last, left_next}
use Rattle.markdown_children.proofs.division.set_chunks.Goals as goal

pub loop-next-init : goal.loop-next-init
loop-next-init c = (
  length c.args.events.now,
  record { chunks = omega arith; inside = c.requires.first; start = omega arith; forward = c.requires.forward; built = rw c.clear.ensures.items refl },
)

pub loop-next-smaller : goal.loop-next-smaller
loop-next-smaller c = omega (arith, (left_next c.loop-next.invariant.1 (sym c.in-Some.ensures)).1, c.loop-next.invariant.1.inside)

pub loop-next-preserved : goal.loop-next-preserved
loop-next-preserved c =
    let next = left_next c.loop-next.invariant.1 (sym c.in-Some.ensures) in
    (next.0, rw (c.in_ok-push.ensures.items, c.part_end-end.ensures, c.place_at-exit.ensures) next.2)

pub returns : goal.returns
returns c = c.in_ok-push-2.ensures.items ∙ left_last c.loop-next.invariant.1 (sym c.in_default.ensures)
