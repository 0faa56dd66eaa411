use Rattle.std.proofs.Common.{◌∙◌, ◌+◌, ◌++◌, length, drop, sym, ap, arith}
use Rattle.std.proofs.lemmas.List.{length-drop}
use Rattle.mdgfm_events.proofs.Slices.{tail}
use Rattle.mdgfm_literals.specs.Literals.{more_passed}
use Rattle.mdinline_labels.specs.Defined.{defines}
use Rattle.mdgfm_footnotes.specs.Calls.{call_at, calls_from}
use Rattle.mdgfm_footnotes.proofs.Steps.{call-next, found-some, none-next}
use Rattle.mdgfm_footnotes.proofs.calls.push_calls.Goals as goal

pub loop-at-preserved-in-Some : goal.loop-at-preserved-in-Some
loop-at-preserved-in-Some c =
    let text = c.args.text.now in
    let at = c.loop-at.at in
    let start = c.args.start in
    let defined = defines c.args.labels.now in
    let n = c.in-Some.size in
    let long = ap length (tail at text) ∙ length-drop at text in
    let there = ap (call_at defined) (sym (tail at text)) ∙ sym c.in_ok-size.ensures.value ∙ c.in-Some.is in
    let within = found-some c.in_ok-size.field-0 n _ c.in-Some.is c.in_ok-size.ensures.within in
    record {
      same = ap (λ ls. ls ++ calls_from defined 0 (start + (at + n)) (drop (at + n) text)) c.in_ok-push-in-Some.ensures.items
          ∙ call-next defined _ c.loop-at.all.items start at text c.loop-at-test.true c.loop-at.invariant.same n there within.0;
      room = omega (arith, long, within.1, c.loop-at-test.true);
    }

pub loop-at-preserved : goal.loop-at-preserved
loop-at-preserved c =
    let text = c.args.text.now in
    let at = c.loop-at.at in
    let all = c.loop-at.all.items in
    let start = c.args.start in
    let defined = defines c.args.labels.now in
    let long = ap length (tail at text) ∙ length-drop at text in
    let more-is = c.more_passed.ensures.value ∙ ap (λ ts. more_passed ts) (tail at text) in
    let there = ap (call_at defined) (sym (tail at text)) ∙ sym c.in_ok-size.ensures.value ∙ c.in-None.is in
    record {
      same = ap (λ k. all ++ calls_from defined 0 (start + (at + (1 + k))) (drop (at + (1 + k)) text)) more-is ∙ none-next defined _ all start at text c.loop-at-test.true c.loop-at.invariant.same there;
      room = omega (arith, long, c.more_passed.ensures.within, c.loop-at-test.true);
    }
