use Rattle.std.proofs.Common.{◌++◌, ℕ, List, ap, sym, ◌∙◌, length, arith}
use Rattle.std.proofs.lemmas.List.{length-drop}
use Rattle.markdown_base.specs.declared.event.Event.{Event}
use Rattle.mdhtml_document.specs.Walks.{alt_from}
use Rattle.mdhtml_document.proofs.AltFacts.{alt-drop}
use Rattle.mdhtml_document.proofs.descriptions.push_alt.Goals as goal

pub returns-in_ok-passed-in-Enter-clause-added : goal.returns-in_ok-passed-in-Enter-clause-added
returns-in_ok-passed-in-Enter-clause-added c =
    let bytes = c.args.bytes.now in
    let text = c.push_entered.new.text.items in
    let passed = c.in_ok-passed-in-Enter.passed in
    ap (λ (es : List Event). text ++ alt_from bytes 0 es) c.behind_first.ensures ∙ ap (λ (x : List ℕ). text ++ x) (sym (alt-drop bytes passed c.args.behind.now))
    ∙ c.in_ok-passed-in-Enter.ensures.added

pub returns-in_ok-passed-in-Enter-clause-within : goal.returns-in_ok-passed-in-Enter-clause-within
returns-in_ok-passed-in-Enter-clause-within c =
    let long = ap (λ (es : List Event). length es) c.behind_first.ensures in
    let less = length-drop c.in_ok-passed-in-Enter.passed c.args.behind.now in
    omega (arith, long, less)
