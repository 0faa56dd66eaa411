use Rattle.mddocument_editing.proofs.Prelude.{◌≡◌, ◌+◌, ◌++◌, [], ◌∷◌, drop, sym, ap, ◌∙◌, append_assoc, append-nil, drop_all, drop_more}
use Rattle.mddocument_editing.proofs.said.push_saids.Goals as goal

pub loop-index-preserved : goal.loop-index-preserved
loop-index-preserved c =
    let xs = c.args.saids.now in
    let i = c.loop-index.index in
    let said = c.index-saids-index.result in
    let all = c.loop-index.all.items in
    let more = drop (i + 1) xs in
    let split : drop i xs ≡ said ∷ more = drop_more xs i said c.loop-index-test.true ∙ ap (λ z. z ∷ more) (sym c.index-saids-index.is) in
    ap (λ ys. ys ++ more) c.in_ok-push.ensures.items
    ∙ append_assoc all (c.in_ok-copy.copy ∷ []) more
    ∙ ap (λ z. all ++ z ∷ more) c.in_ok-copy.ensures
    ∙ ap (λ ys. all ++ ys) (sym split)
    ∙ c.loop-index.invariant

pub returns : goal.returns
returns c =
    let all = c.loop-index.all.items in
    sym (append-nil all) ∙ ap (λ ss. all ++ ss) (sym (drop_all c.loop-index.index c.args.saids.now c.loop-index-test.false)) ∙ c.loop-index.invariant
