use Rattle.std.proofs.Common.{◌∙◌, ◌+◌, ◌-◌, ◌++◌, None, length, drop, sym, ap, subst, arith}
use Rattle.std.proofs.lemmas.List.{drop-drop, length-drop}
use Rattle.std.specs.Prelude.{slice_get}
use Rattle.mdgfm_literals.specs.Grammar.{IsKnown, literal_at}
use Rattle.mdgfm_literals.specs.Literals.{literals_from, more_passed}
use Rattle.mdgfm_literals.proofs.Domains.{known-by, none-known}
use Rattle.mdgfm_events.proofs.Slices.{tail}
use Rattle.mdgfm_literals.proofs.TextSteps.{found-next, none-next}
use Rattle.mdgfm_literals.proofs.texts.push_literals.Goals as goal

pub known_at-near-requires : goal.known_at-near-requires
known_at-near-requires c = subst (λ ts. IsKnown c.loop-at.known ts) (sym (tail c.loop-at.at c.args.text.now)) c.loop-at.invariant.known

pub loop-at-preserved-in-Some : goal.loop-at-preserved-in-Some
loop-at-preserved-in-Some c =
    let text = c.args.text.now in
    let at = c.loop-at.at in
    let f = c.in-Some.found in
    let long = ap length (tail at text) ∙ length-drop at text in
    let there = ap (λ ts. literal_at c.loop-at.before ts) (sym (tail at text)) ∙ sym c.in-Some.ensures.found in
    record {
      same = ap (λ ls. ls ++ literals_from 0 None (c.args.start + (at + f.size)) (drop (at + f.size) text)) c.in_ok-push-in-Some.ensures.items
          ∙ found-next _ c.loop-at.all.items c.loop-at.before c.args.start at text c.loop-at-test.true c.loop-at.invariant.same f there c.in-Some.ensures.some;
      known = none-known (drop (at + f.size) text);
      room = omega (arith, long, c.in-Some.ensures.within, c.loop-at-test.true);
    }

pub loop-at-preserved : goal.loop-at-preserved
loop-at-preserved c =
    let text = c.args.text.now in
    let at = c.loop-at.at in
    let all = c.loop-at.all.items in
    let start = c.args.start in
    let more = c.more_passed-more.result in
    let m = more_passed (drop at text) in
    let before = c.byte_at-before.result in
    let near = c.known_at-near.result in
    let long = ap length (tail at text) ∙ length-drop at text in
    let there = ap (λ ts. literal_at c.loop-at.before ts) (sym (tail at text)) ∙ sym c.in-None.ensures.found in
    let more-is = c.more_passed-more.ensures.value ∙ ap (λ ts. more_passed ts) (tail at text) in
    let before-is = c.byte_at-before.ensures ∙ ap (λ ts. slice_get ts more) (tail at text) ∙ ap (λ k. slice_get (drop at text) k) more-is in
    let known = subst (λ ts. IsKnown near ts) (tail at text) c.known_at-near.ensures.known in
    record {
      same = ap (λ k. all ++ literals_from 0 before (start + (at + (1 + k))) (drop (at + (1 + k)) text)) more-is
          ∙ ap (λ b. all ++ literals_from 0 b (start + (at + (1 + m))) (drop (at + (1 + m)) text)) before-is
          ∙ none-next _ all c.loop-at.before start at text c.loop-at-test.true c.loop-at.invariant.same there;
      known = subst (λ k. IsKnown k (drop (at + (1 + more)) text)) (sym c.saturating_sub-known.ensures)
          (subst (λ ts. IsKnown (near - (1 + more)) ts) (drop-drop (1 + more) at text) (known-by (1 + more) near (drop at text) known));
      room = omega (arith, long, c.more_passed-more.ensures.within, c.loop-at-test.true);
    }
