use Rattle.std.proofs.Common.{◌≡◌, ℕ, ap, sym, ◌∙◌}
use Rattle.std.proofs.lemmas.Result.{IfOk-weaker}
use Rattle.std.specs.Global.{Global}
use Rattle.std.specs.Prelude.{Vec}
use Rattle.mddocument_link_targets.specs.Spans.{inside}
use Rattle.mdinline_labels.specs.Labels.{normalised}
use Rattle.mdhtml_document.specs.Notes.{label_in}
use Rattle.mdhtml_document.proofs.Labels.{step-found}
use Rattle.mdhtml_document.proofs.notes.label_inside.Goals as goal

pub returns-then-enters : goal.returns-then-enters
returns-then-enters c =
    let bytes = c.args.bytes.now in
    let found = step-found bytes c.events.depth _ c.in-Some.exit.now c.events.rest.now c.in-len1-up.len_at_least c.in-Enter.is (sym c.enters.ensures ∙ c.if-enters.true) c.in-Some.ensures.value in
    IfOk-weaker c.normalised.result (λ (out : Vec ℕ Global). out.items ≡ normalised c.slice.result.now) (λ (out : Vec ℕ Global). out.items ≡ label_in bytes (inside c.args.behind.now))
    (λ out is. is ∙ ap normalised c.slice.ensures ∙ sym found ∙ c.events.invariant.same) c.normalised.ensures
