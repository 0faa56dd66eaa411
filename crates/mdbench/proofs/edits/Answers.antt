use Rattle.mdbench.proofs.Prelude.{ℕ, ◌*◌, List, ◌<◌, sym, subst, arith, Edit}
use Rattle.mdbench.proofs.Insertions.{AreInsertions, apart, added}
use Rattle.mdbench.proofs.edits.Goals as goal

pub loop-step-preserved : goal.loop-step-preserved
loop-step-preserved c =
    let n : ℕ = 2 * c.args.count in
    let k = c.span_at-k.result in
    let below : k < c.args.count = c.span_at-k.ensures in
    subst (λ (w : List Edit). AreInsertions 0 w n) (sym c.in_ok-add.ensures.ok) (added c.loop-step.map n (2 * k) _ (omega arith) c.loop-step.invariant)

pub returns : goal.returns
returns c = apart 0 c.loop-step.map (2 * c.args.count) c.loop-step.invariant
