use Rattle.std.proofs.Common.{◌≡◌, ◌∙◌, ◌<◌, false, ap, arith, below_more, get_or, length, sym}
use Rattle.std.proofs.lemmas.List.{get_or_default}
use Rattle.markdown_base.proofs.SliceLemmas.{filler}
use Rattle.markdown_base.specs.declared.event.Event.{Event}
use Rattle.mdinline_link_strings.specs.Strings.{is_string}
use Rattle.mdinline_link_strings.proofs.names.events_outside.Goals as goal

pub loop-next-preserved : goal.loop-next-preserved
loop-next-preserved g c =
    let events = c.args.events.now in
    let next = c.loop-next.next in
    let inside : next < length events = c.loop-next-test.true in
    let one = c.add_one.ensures in
    let few = c.loop-next.invariant.2 in (
      λ d.
          below_more (λ k. is_string (get_or events k d).name ≡ false) next (c.loop-next.invariant.0 d)
          (ap (λ (e : Event). is_string e.name) (get_or_default events next d filler inside) ∙ sym c.is_string.ensures ∙ c.if-is_string.false),
      omega (arith, inside),
      omega (arith, one, few),
    )
