use Rattle.std.proofs.Common.{◌≡◌, ◌≤◌, ℕ, Option, Result, refl, IfErr, IfSome, IsSomeAnd, length, Some, ap, ◌∙◌, subst, sym}
use Rattle.markdown.specs.Virtual.{IsWithinLimit}
use Rattle.mdconstructs.specs.Divided.{bytes_of}
use Rattle.limecove.specs.declared.Answer.{Answer}
use Rattle.limecove.specs.declared.edits.Changed.{Changed}
use Rattle.limecove.specs.declared.held.Held.{Held}
use Rattle.limecove.specs.declared.code.TheConstants.{TOO_LONG}
use Rattle.limecove.specs.Editing.{IsEdited, replaced}
use Rattle.limecove.proofs.editing.limecove_document_replace.Goals as goal

pub returns-in-Ok-clause-read : goal.returns-in-Ok-clause-read
returns-in-Ok-clause-read c read =
    let Edits : Held → Held → Type 0 = IsEdited c.args.from c.args.to c.args.with.now c.in-Ok.changed c.ended-in-Ok.result.count in
    subst (λ (h : Option Held). IsSomeAnd h (λ before. IsSomeAnd c.of.result.kept.held (Edits before))) (ap Some c.deref_mut.ensures.value ∙ c.in-Some.ensures.taken)
    (subst (λ (h : Option Held). IsSomeAnd h (Edits c.deref_mut.result.now)) (sym c.of.ensures) (record { edit = c.in-Ok.ensures.replaced; count = ap (λ (a : Answer). a.count) c.ended-in-Ok.ensures ∙ c.count-count.ensures ∙ ap (λ (h : Held). length h.sections.sections) c.deref.ensures }))

pub returns-in-Err-clause-too_long : goal.returns-in-Err-clause-too_long
returns-in-Err-clause-too_long c =
    let Is : Result Changed ℕ → Type 0 = λ r. IfErr r (λ code. code ≡ TOO_LONG) in
    subst (λ (h : Option Held). IfSome h (λ held. c.args.from ≤ c.args.to → c.args.to ≤ length (bytes_of held.sections)
    → ¬ IsWithinLimit held.sections.options.tab_size (replaced c.args.from c.args.to c.args.with.now (bytes_of held.sections)) → c.ended-in-Err.result.code ≡ TOO_LONG)) (ap Some c.deref_mut.ensures.value ∙ c.in-Some.ensures.taken) (λ order within above. ap (λ (a : Answer). a.code) c.ended-in-Err.ensures ∙ subst Is (sym (c.in-Err.ensures.too_long (order, within) above)) refl)
