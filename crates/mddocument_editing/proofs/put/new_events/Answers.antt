use Rattle.mddocument_editing.proofs.Prelude.{◌≡◌, subst, sym, ap, ◌∙◌, false≢true, err_from_is_err_and, part_events, IsPackable, TooLong, knows}
use Rattle.mddocument_editing.proofs.PutOthers.{has-unasked}
use Rattle.mddocument_editing.specs.Said.{linking}
use Rattle.mddocument_editing.proofs.put.new_events.Goals as goal

pub returns-then-not-asks-clause-none : goal.returns-then-not-asks-clause-none
returns-then-not-asks-clause-none c = has-unasked c.args.options.now c.args.old.now c.args.known.now c.args.section.now c.requires.read (sym c.in_ok-asks.ensures ∙ c.if-not-asks.true)

pub returns-then-same-clause-none : goal.returns-then-same-clause-none
returns-then-same-clause-none c =
    let read = part_events c.args.options.now (knows c.args.known.now) in
    sym (c.in_ok-read.ensures.events ∙ ap read c.as_slice.ensures.value) ∙ c.are_same-same.ensures.0 c.if-same.true

pub returns-clause-some : goal.returns-clause-some
returns-clause-some c =
    let read = part_events c.args.options.now (knows c.args.known.now) in
    let new = c.in_ok-read.ensures.events ∙ ap read c.as_slice.ensures.value in
    let all = c.in_ok-read.ensures.linking ∙ ap (λ bytes. linking bytes c.in_ok-read.read.events) c.as_slice.ensures.value in
    ((new, all), (λ has. false≢true (sym c.if-same.false ∙ c.are_same-same.ensures.1 (new ∙ has))))

pub returns-in_err-read-clause-fits : goal.returns-in_err-read-clause-fits
returns-in_err-read-clause-fits c fits long =
    let p = err_from_is_err_and c.from_residual-in_err-read.result c.from_residual-in_err-read.ensures.1 in
    let is : c.in_err-read.field-0.0 ≡ TooLong = cc (p.1, p.2, long) in
    c.in_err-read.ensures.events is (subst (IsPackable c.args.options.now (knows c.args.known.now)) (sym c.as_slice.ensures.value) fits)
