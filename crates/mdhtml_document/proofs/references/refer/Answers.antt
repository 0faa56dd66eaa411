use Rattle.std.proofs.Common.{◌+◌, List, ap, sym, ◌∙◌, length, arith}
use Rattle.std.proofs.lemmas.List.{length-drop}
use Rattle.markdown_base.specs.declared.event.Event.{Event}
use Rattle.mdhtml_document.specs.Frames.{size_by}
use Rattle.mdhtml_document.specs.Walks.{references_from}
use Rattle.mdhtml_document.proofs.AltFacts.{references-drop}
use Rattle.mdhtml_document.proofs.Unreferred.{unreferred}
use Rattle.mdhtml_document.proofs.references.refer.Goals as goal

pub returns-then-not-refers-clause-size : goal.returns-then-not-refers-clause-size
returns-then-not-refers-clause-size c =
    let known = c.args.known.now in
    let none = unreferred known.bytes.now (size_by known.events.now known.definitions.now) c.args.event.now c.args.behind.now (sym c.refers.ensures ∙ c.if-not-refers.true) in
    omega (arith, none)

pub returns-clause-size : goal.returns-clause-size
returns-clause-size c =
    let known = c.args.known.now in
    let sizes = size_by known.events.now known.definitions.now in
    let size = c.in_ok-size.size in
    ap (λ (es : List Event). size + references_from known.bytes.now sizes 0 es) c.behind_first.ensures
    ∙ ap (λ n. size + n) (sym (references-drop known.bytes.now sizes c.in_ok-size.passed c.args.behind.now)) ∙ c.in_ok-size.ensures.size

pub returns-clause-within : goal.returns-clause-within
returns-clause-within c =
    let long = ap (λ (es : List Event). length es) c.behind_first.ensures in
    let less = length-drop c.in_ok-size.passed c.args.behind.now in
    omega (arith, long, less)
