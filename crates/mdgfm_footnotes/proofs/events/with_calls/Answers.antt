use Rattle.std.proofs.Common.{◌∙◌, sym, ap}
use Rattle.std.proofs.lemmas.Bool.{false≢true}
use Rattle.std.proofs.lemmas.Result.{IfOk-weaker}
use Rattle.std.specs.List.{list_any}
use Rattle.markdown_base.specs.declared.event.Name.TheVariants.{GfmFootnoteDefinitionLabelString}
use Rattle.mdinline_labels.specs.Defined.{defines}
use Rattle.mdgfm_footnotes.specs.CallEvents.{call_events_by, enters}
use Rattle.mdgfm_footnotes.proofs.Steps.{noted-are}
use Rattle.mdgfm_footnotes.proofs.Unchanged.{defined-none, none-changes-nothing, none-defined}
use Rattle.mdgfm_footnotes.proofs.events.with_calls.Goals as goal

pub returns-then-not-has_definition-clause-events : goal.returns-then-not-has_definition-clause-events
returns-then-not-has_definition-clause-events c =
    let bytes = c.args.bytes.now in
    let events = c.args.events.items in
    let none = ap (λ es. list_any (enters GfmFootnoteDefinitionLabelString) es) (sym c.as_slice.ensures.value) ∙ sym c.has_definition.ensures ∙ c.if-not-has_definition.true in
    sym (none-changes-nothing c.args.options.now bytes events (none-defined bytes events none))

pub returns-clause-none : goal.returns-clause-none
returns-clause-none c none =
    let is = ap (λ es. list_any (enters GfmFootnoteDefinitionLabelString) es) (sym c.as_slice.ensures.value) ∙ sym c.has_definition.ensures ∙ c.if-not-has_definition.false in
    absurd (false≢true (sym (defined-none c.args.bytes.now c.args.events.items none) ∙ is))

pub returns-in_err-noted-clause-none : goal.returns-in_err-noted-clause-none
returns-in_err-noted-clause-none c none =
    let is = ap (λ es. list_any (enters GfmFootnoteDefinitionLabelString) es) (sym c.as_slice.ensures.value) ∙ sym c.has_definition.ensures ∙ c.if-not-has_definition.false in
    absurd (false≢true (sym (defined-none c.args.bytes.now c.args.events.items none) ∙ is))

pub returns-clause-events : goal.returns-clause-events
returns-clause-events c =
    let bytes = c.args.bytes.now in
    let events = c.args.events.items in
    let noted = noted-are bytes events c.as_slice-2.result.now (defines c.in_ok-noted.noted) c.as_slice-2.ensures.value c.in_ok-noted.ensures in
    IfOk-weaker c.with_calls_by.result _ _ (λ all is. is ∙ ap (λ d. call_events_by d c.args.options.now bytes events) noted) c.with_calls_by.ensures.events
