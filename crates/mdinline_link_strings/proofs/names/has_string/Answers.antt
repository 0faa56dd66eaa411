use Rattle.std.proofs.Common.{◌≡◌, ◌∙◌, false, ap, arith, below_more, get_or, sym}
use Rattle.std.proofs.lemmas.Bool.{or_parts}
use Rattle.std.proofs.lemmas.List.{get_or_default}
use Rattle.markdown_base.proofs.SliceLemmas.{filler}
use Rattle.markdown_base.specs.declared.event.Event.{Event}
use Rattle.mdinline_link_strings.specs.Strings.{is_string}
use Rattle.mdinline_link_strings.proofs.names.has_string.Goals as goal

pub loop-event-preserved : goal.loop-event-preserved
loop-event-preserved c = λ none d.
    let events = c.args.events.now in
    let i = c.loop-event.event-index in
    let parts = or_parts _ _ none in
    below_more (λ k. is_string (get_or events k d).name ≡ false) i (c.loop-event.invariant parts.0 d)
    (ap (λ (e : Event). is_string e.name) (get_or_default events i d filler c.loop-event-test.true) ∙ sym c.is_string-any.ensures ∙ parts.1)

pub returns : goal.returns
returns c = λ none d k less. c.loop-event.invariant none d k (omega (arith, less, c.loop-event-test.false))
