use Rattle.std.proofs.Common.{◌≡◌, ℕ, Option, Result, IfOk, IfErr, Some, ap, ◌∙◌, subst}
use Rattle.limecove.specs.declared.held.Held.{Held}
use Rattle.limecove.specs.declared.code.TheConstants.{READ}
use Rattle.limecove.specs.declared.edits.Place.{Place}
use Rattle.limecove.specs.Editing.{place_in}
use Rattle.limecove.proofs.editing.limecove_document_place.Goals as goal

pub returns-in-Ok-clause-none : goal.returns-in-Ok-clause-none
returns-in-Ok-clause-none c =
    let Meets : Result Place ℕ → Type 0 = λ r. IfErr r (λ code. (0 ≡ code) × (c.in-Ok.it ≡ c.args.place.now)) in
    subst (λ (h : Option Held). Meets (place_in h c.args.utf16 c.args.byte)) (ap Some c.deref.ensures ∙ c.in-Some.ensures.taken) (subst Meets c.in-Ok.ensures tt)

pub returns-in-Err-clause-place : goal.returns-in-Err-clause-place
returns-in-Err-clause-place c =
    let Meets : Result Place ℕ → Type 0 = λ r. IfOk r (λ found. (c.in-Err.code ≡ READ) × (c.args.place.now ≡ found)) in
    subst (λ (h : Option Held). Meets (place_in h c.args.utf16 c.args.byte)) (ap Some c.deref.ensures ∙ c.in-Some.ensures.taken) (subst Meets c.in-Err.ensures tt)
