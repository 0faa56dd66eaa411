use Rattle.mddocument_editing.proofs.Prelude.{◌-◌, ◌∙◌, None, Some, ap, arith, length, slice_get}
use Rattle.mddocument_editing.proofs.ExitSteps.{span-end}
use Rattle.mddocument_editing.proofs.linking.size_at.Goals as goal

pub overflow_sub-result : goal.overflow_sub-result
overflow_sub-result c =
    let last = c.in-Some.ensures.value ∙ ap (λ xs. slice_get xs (length xs - 1)) c.deref.ensures.value in
    let end = span-end c.args.exits.now.items c.args.at c.args.events.now (Some c.in-Some.exit.now) c.requires.exits c.requires.inside last in
    omega (arith, end)

pub returns-in-Some : goal.returns-in-Some
returns-in-Some c =
    let last = c.in-Some.ensures.value ∙ ap (λ xs. slice_get xs (length xs - 1)) c.deref.ensures.value in
    let end = span-end c.args.exits.now.items c.args.at c.args.events.now (Some c.in-Some.exit.now) c.requires.exits c.requires.inside last in
    omega (arith, end)

pub returns-in-None : goal.returns-in-None
returns-in-None c =
    let last = c.in-None.ensures.value ∙ ap (λ xs. slice_get xs (length xs - 1)) c.deref.ensures.value in
    let end = span-end c.args.exits.now.items c.args.at c.args.events.now None c.requires.exits c.requires.inside last in
    omega (arith, end)
