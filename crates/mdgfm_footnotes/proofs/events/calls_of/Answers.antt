use Rattle.std.proofs.Common.{◌∙◌, ◌+◌, length, sym, ap, arith}
use Rattle.std.proofs.lemmas.List.{drop_more, length-drop}
use Rattle.mdinline_labels.specs.Defined.{defines}
use Rattle.mdgfm_events.proofs.Slices.{tail}
use Rattle.mdgfm_footnotes.proofs.Steps.{calls-step}
use Rattle.mdgfm_footnotes.proofs.events.calls_of.Goals as goal

pub loop-at-preserved-then-is_text : goal.loop-at-preserved-then-is_text
loop-at-preserved-then-is_text c =
    let events = c.args.events.now in
    let at = c.loop-at.at in
    let span = c.span_of-span in
    let stretch = c.stretch_from-stretch in
    let long = ap length (tail (at + 1) events) ∙ length-drop (at + 1) events in
    let next = at + 1 + span.result.size in
    let longer = ap length (tail next events) ∙ length-drop next events in
    let defined = defines c.args.labels.now in
    record {
      same = calls-step defined c.args.bytes.now c.loop-at.depth _ c.loop-at.all.items events at _ (drop_more events at _ c.loop-at-test.true) c.loop-at.invariant.same
          (sym c.is_text.ensures ∙ c.if-is_text.true) span.result.size span.result.end stretch.result c.slice.result.now c.push_calls.new.all.items
          span.ensures.size span.ensures.end span.ensures.within stretch.ensures.reach c.slice.ensures c.in_ok-push_calls.ensures;
      few = omega (arith, c.loop-at.invariant.few);
      room = omega (arith, long, longer, span.ensures.within, stretch.ensures.within, c.loop-at-test.true);
    }
