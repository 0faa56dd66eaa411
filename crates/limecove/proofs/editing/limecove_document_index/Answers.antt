use Rattle.std.proofs.Common.{◌≡◌, ℕ, Option, Result, IfOk, IfErr, Some, ap, ◌∙◌, refl, subst}
use Rattle.limecove.specs.declared.held.Held.{Held}
use Rattle.limecove.specs.declared.code.TheConstants.{READ}
use Rattle.limecove.specs.Editing.{index_in}
use Rattle.limecove.proofs.editing.limecove_document_index.Goals as goal

pub returns-in-Ok-clause-index : goal.returns-in-Ok-clause-index
returns-in-Ok-clause-index c =
    let Meets : Result ℕ ℕ → Type 0 = λ r. IfOk r (λ found. (0 ≡ READ) × (c.in-Ok.it ≡ found)) in
    subst (λ (h : Option Held). Meets (index_in h c.args.utf16 c.args.line c.args.character)) (ap Some c.deref.ensures ∙ c.in-Some.ensures.taken) (subst Meets c.in-Ok.ensures (refl, refl))

pub returns-in-Ok-clause-none : goal.returns-in-Ok-clause-none
returns-in-Ok-clause-none c =
    let Meets : Result ℕ ℕ → Type 0 = λ r. IfErr r (λ code. (0 ≡ code) × (c.in-Ok.it ≡ c.args.index.now)) in
    subst (λ (h : Option Held). Meets (index_in h c.args.utf16 c.args.line c.args.character)) (ap Some c.deref.ensures ∙ c.in-Some.ensures.taken) (subst Meets c.in-Ok.ensures tt)

pub returns-in-Err-clause-index : goal.returns-in-Err-clause-index
returns-in-Err-clause-index c =
    let Meets : Result ℕ ℕ → Type 0 = λ r. IfOk r (λ found. (c.in-Err.code ≡ READ) × (c.args.index.now ≡ found)) in
    subst (λ (h : Option Held). Meets (index_in h c.args.utf16 c.args.line c.args.character)) (ap Some c.deref.ensures ∙ c.in-Some.ensures.taken) (subst Meets c.in-Err.ensures tt)
