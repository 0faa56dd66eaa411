use Rattle.std.proofs.Common.{◌∙◌, sym, ap, arith, eqb-true, true}
use Rattle.std.proofs.lemmas.List.{nil_from_length}
use Rattle.mdgfm_literals.specs.Stretches.{literals_of}
use Rattle.mdgfm_literals.proofs.Unchanged.{none-changes-nothing}
use Rattle.mdgfm_literals.proofs.events.with_literals.Goals as goal

pub returns-then-is_empty-clause-events : goal.returns-then-is_empty-clause-events
returns-then-is_empty-clause-events c =
    let l = c.in_ok-literals.literals in
    let bytes = c.args.bytes.now in
    let events = c.args.events.items in
    let zero = eqb-true _ 0 (sym c.is_empty.ensures ∙ c.if-is_empty.true) in
    let empty = nil_from_length l.items (omega (arith, l.ok.0, zero)) in
    let none = ap (λ es. literals_of bytes true 0 0 es) (sym c.as_slice.ensures.value) ∙ sym c.in_ok-literals.ensures ∙ empty in
    sym (none-changes-nothing c.args.options.now bytes events none)
