use Rattle.std.proofs.Common.{◌∙◌, length, ap, arith}
use Rattle.std.proofs.lemmas.List.{drop_more, length-drop}
use Rattle.mdgfm_events.proofs.Slices.{tail}
use Rattle.mdgfm_footnotes.proofs.Steps.{bare_long, bare_next}
use Rattle.mdgfm_footnotes.proofs.events.with_insides.Goals as goal

pub push_inside-requires-clause-long : goal.push_inside-requires-clause-long
push_inside-requires-clause-long c =
    bare_long c.args.calls.now c.args.events.now c.loop-at.count c.loop-at.at _ c.is_bare.result c.is_bare.ensures.value c.if-is_bare.true
    c.span_of-span.result.end c.span_of-span.ensures.end c.requires.long

pub loop-at-preserved-then-is_bare : goal.loop-at-preserved-then-is_bare
loop-at-preserved-then-is_bare c =
    let events = c.args.events.now in
    let calls = c.args.calls.now in
    let at = c.loop-at.at in
    let count = c.loop-at.count in
    let some = c.is_bare.ensures.some c.if-is_bare.true in
    let long = ap length (tail count calls) ∙ length-drop count calls in
    record {
      same = bare_next calls events count at _ c.is_bare.result c.is_bare.ensures.value c.if-is_bare.true c.span_of-span.result.end c.span_of-span.ensures.end
          c.args.tab c.args.bytes.now (drop_more events at _ c.loop-at-test.true) _ c.loop-at.out.items c.loop-at.invariant.same
          c.push.new.self.items c.push_inside.new.out.items c.in_ok-push.ensures.items c.in_ok-push_inside.ensures;
      some = omega (arith, some, long);
      room = omega (arith, c.loop-at-test.true);
    }
