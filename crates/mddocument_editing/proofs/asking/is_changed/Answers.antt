use Rattle.mddocument_editing.proofs.Prelude.{◌≡◌, Bool, true, false, cond, not, refl, sym, ◌∙◌, subst, defines}
use Rattle.mddocument_editing.proofs.asking.is_changed.Goals as goal

-- what is the same in both sets does not change
unchanged : (a : Bool) → false ≡ cond a (not a) a
unchanged true = refl
unchanged false = refl

pub returns-then-not-is_near : goal.returns-then-not-is_near
returns-then-not-is_near c =
    let old = defines c.args.old.now c.args.label.now in
    subst (λ b. false ≡ cond old (not b) b) (c.requires c.args.label.now (sym c.in_ok-is_near.ensures ∙ c.if-not-is_near.true)) (unchanged old)
