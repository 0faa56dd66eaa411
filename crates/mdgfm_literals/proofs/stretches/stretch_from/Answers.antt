use Rattle.std.proofs.Common.{◌∙◌, ◌+◌, length, sym, ap, arith}
use Rattle.std.proofs.lemmas.List.{drop_more, length-drop}
use Rattle.mdgfm_literals.proofs.EventLoops.{reach-step}
use Rattle.mdgfm_events.proofs.Slices.{tail}
use Rattle.mdgfm_literals.proofs.stretches.stretch_from.Goals as goal

pub loop-size-preserved : goal.loop-size-preserved
loop-size-preserved c =
    let events = c.args.events.now in
    let at = c.loop-size.size in
    let long = ap length (tail (at + 1) events) ∙ length-drop (at + 1) events in
    record {
      same = reach-step events at _ (drop_more events at _ c.loop-size-test.true) c.span_of-span.result.size c.span_of-span.result.end c.span_of-span.ensures.size c.span_of-span.ensures.end
          c.loop-size.stop _ (sym c.goes_on.ensures ∙ c.if-not-goes_on.false) c.span_of-span.ensures.within c.loop-size.invariant.same;
      room = omega (arith, long, c.span_of-span.ensures.within, c.loop-size-test.true);
    }
