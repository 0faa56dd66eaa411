use Rattle.mdinline_labels.proofs.Prelude.{◌≡◌, IfOk, Ok, Err, map, ap, ◌∙◌, subst, IsUtf8, to_ascii_uppercase, collapsed, normalised}
use Rattle.mdinline_labels.proofs.Folded.{of-text, of-bytes}
use Rattle.mdinline_labels.proofs.normalised.Goals as goal

pub returns-in-Ok : goal.returns-in-Ok
returns-in-Ok c =
    let a = c.in-Ok.ensures.cases in
    let is = c.as_slice.ensures.value ∙ c.in_ok-together.ensures in
    ap (λ v. v.items) c.into_bytes.ensures.value
    ∙ c.in_ok-folded-in-Ok.ensures
    ∙ of-text (collapsed c.args.bytes.now) c.in-Ok.text.now (a.0 ∙ is) (subst IsUtf8 is a.1)

pub returns : goal.returns
returns c =
    let a = c.in-Err.ensures.cases in
    let is = c.as_slice.ensures.value ∙ c.in_ok-together.ensures in
    let same = c.as_slice-in-Err.ensures.value ∙ c.in_ok-together.ensures in
    let to = ap (map to_ascii_uppercase) same ∙ of-bytes (collapsed c.args.bytes.now) (subst (λ bs. IsUtf8 bs → ⊥) is a.0) in
    elim c.to_ascii_uppercase.result as (λ r. IfOk r (λ out. out.items ≡ map to_ascii_uppercase c.as_slice-in-Err.result.now) → IfOk r (λ out. out.items ≡ normalised c.args.bytes.now)) [
      | Ok out ↦ λ h. h ∙ to
      | Err e ↦ λ h. h
    ] c.to_ascii_uppercase.ensures.ok
