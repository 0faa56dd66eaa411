use Rattle.std.proofs.Common.{◌∙◌, ◌+◌, length, drop, sym, ap, arith}
use Rattle.std.proofs.lemmas.List.{drop_more, length-drop}
use Rattle.mdgfm_literals.proofs.EventLoops.{with-step}
use Rattle.mdgfm_events.proofs.Slices.{tail}
use Rattle.mdgfm_literals.proofs.events.events_with.Goals as goal

pub loop-at-preserved-then-is_text : goal.loop-at-preserved-then-is_text
loop-at-preserved-then-is_text c =
    let events = c.args.events.now in
    let literals = c.args.literals.now in
    let at = c.loop-at.at in
    let span = c.span_of-span in
    let w = c.in_ok-written in
    let long = ap length (tail (at + 1) events) ∙ length-drop (at + 1) events in
    record {
      same = with-step events at _ (drop_more events at _ c.loop-at-test.true) span.result.size span.result.end span.ensures.size span.ensures.end
          c.args.tab c.args.bytes.now c.loop-at.depth c.loop-at.place (drop c.loop-at.count literals) _ c.loop-at.out.items c.loop-at.invariant.same
          (sym c.is_text.ensures ∙ c.if-is_text.true)
          c.push_written.new.out.items c.push_left.new.out.items w.written.place (drop w.written.count literals) w.ensures.events w.ensures.place w.ensures.left c.in_ok-push_left.ensures;
      few = omega (arith, c.loop-at.invariant.few);
      some = w.ensures.inside;
      room = omega (arith, long, span.ensures.within, c.loop-at-test.true);
    }
