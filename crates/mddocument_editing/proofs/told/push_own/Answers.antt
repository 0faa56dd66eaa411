use Rattle.mddocument_editing.proofs.Prelude.{◌≡◌, ◌+◌, ◌++◌, ◌∷◌, drop, sym, ap, ◌∙◌, append_assoc, append-nil, drop_all, drop_more}
use Rattle.mddocument_editing.specs.Told.{own_saids}
use Rattle.mddocument_editing.proofs.told.push_own.Goals as goal

pub loop-section-preserved : goal.loop-section-preserved
loop-section-preserved c =
    let xs = c.args.sections.now in
    let i = c.loop-section.section-index in
    let s = c.section-item.result in
    let all = c.loop-section.all.items in
    let more = drop (i + 1) xs in
    let split : drop i xs ≡ s ∷ more = drop_more xs i s c.loop-section-test.true ∙ ap (λ z. z ∷ more) (sym c.section-item.is) in
    ap (λ ys. ys ++ own_saids more) c.in_ok-push_saids.ensures
    ∙ ap (λ ds. (all ++ ds) ++ own_saids more) (c.as_slice.ensures ∙ ap (λ l. l.saids) c.as_ref.ensures)
    ∙ append_assoc all s.linking.saids (own_saids more)
    ∙ ap (λ ss. all ++ own_saids ss) (sym split)
    ∙ c.loop-section.invariant

pub returns : goal.returns
returns c =
    let all = c.loop-section.all.items in
    sym (append-nil all) ∙ ap (λ ss. all ++ own_saids ss) (sym (drop_all c.loop-section.section-index c.args.sections.now c.loop-section-test.false)) ∙ c.loop-section.invariant
