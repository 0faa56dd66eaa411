use Rattle.markdown_base.proofs.Prelude.{arith, sym, inl, inr, ap, not, eq-eqb, ◌∙◌, false≢true}
use Rattle.markdown_base.proofs.Cuts.{spaces-after_is}
use Rattle.markdown_base.proofs.util.slice.spaces_after.Goals as goal
use Rattle.markdown_base.proofs.util.slice.spaces_after.Goals.{then-start-eq0, else-start-eq0}

pub returns-then-start-end : goal.returns-then-start-end
returns-then-start-end c =
    let p = c.args.start.now in
    let q = c.args.end.now in
    elim c.if-start-eq0.branch [
      | then-start-eq0 w ↦ λ t bytes some start end. sym (spaces-after_is t some bytes p q end c.requires.ordered (omega arith) (inl w.if-start-eq0.true))
      | else-start-eq0 w ↦ λ t bytes some start end. sym (spaces-after_is t some bytes p q end c.requires.ordered (omega arith) (inr (λ same. false≢true (ap not (sym (eq-eqb p.index q.index same)) ∙ sym w.value-is ∙ c.if-start-end.true))))
    ]
