use Rattle.mddocument_editing.proofs.Prelude.{◌≡◌, ◌+◌, ◌∷◌, drop, sym, ap, ◌∙◌, is_some, drop_all, drop_more}
use Rattle.mddocument_editing.specs.Said.{said_by, said_of}
use Rattle.mddocument_editing.specs.declared.said.Said.{Said}
use Rattle.mddocument_editing.proofs.Touched.{skip-one}
use Rattle.mddocument_editing.proofs.leads.touch.Goals as goal

pub loop-index-preserved : goal.loop-index-preserved
loop-index-preserved c = λ label touched.
    let xs = c.args.saids.now in
    let i = c.loop-index.index in
    let said = c.index-saids-index.result in
    let more = drop (i + 1) xs in
    let split : drop i xs ≡ said ∷ more = drop_more xs i said c.loop-index-test.true ∙ ap (λ z. z ∷ more) (sym c.index-saids-index.is) in
    sym (skip-one (said_by c.args.leads.now) label said more (ap (λ (s : Said). is_some (said_by c.args.leads.now s.label)) c.index-saids-index.is ∙ ap (λ l. is_some (said_by c.args.leads.now l)) (sym c.as_slice.ensures) ∙ sym c.has-touches.ensures ∙ c.if-touches.false) touched)
    ∙ ap (λ ds. said_of ds label) (sym split)
    ∙ c.loop-index.invariant label touched

pub returns : goal.returns
returns c = λ _ label touched. sym (c.loop-index.invariant label touched) ∙ ap (λ ds. said_of ds label) (drop_all c.loop-index.index c.args.saids.now c.loop-index-test.false)
