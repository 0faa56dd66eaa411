use Rattle.markdown_edits.proofs.Prelude.{◌≡◌, ◌+◌, ◌-◌, arith, take, sym, ap, ◌∙◌, Kind, depth_after, run_len, mirror}
use Rattle.markdown_edits.proofs.Mirrors.{back_more}
use Rattle.markdown_edits.proofs.skip.run_start.Goals as goal
use Rattle.markdown_edits.proofs.skip.run_start.Goals.{in-Enter, in-Exit}

pub returns-then-is_stop : goal.returns-then-is_stop
returns-then-is_stop c =
    let s = back_more c.args.names.now c.args.events.now c.loop-at.at c.loop-at.depth _ c.flipped-event.result _ c.flipped-event.ensures (sym c.is_stop.ensures ∙ c.if-is_stop.true) (omega arith) (omega arith) in
    omega (arith, s, (c.loop-at.invariant).walk)

pub loop-at-preserved : goal.loop-at-preserved
loop-at-preserved c =
    let i = c.loop-at.invariant in
    let s = back_more c.args.names.now c.args.events.now c.loop-at.at c.loop-at.depth _ c.flipped-event.result _ c.flipped-event.ensures (sym c.is_stop.ensures ∙ c.if-is_stop.false) (omega arith) (omega arith) in
    let d : depth_after c.flipped-event.result.kind c.loop-at.depth ≡ c.match-event.depth =
    elim c.match-event.branch [ in-Enter w ↦ ap (λ (k : Kind). depth_after k c.loop-at.depth) w.in-Enter.is ∙ sym w.depth-is | in-Exit w ↦ ap (λ (k : Kind). depth_after k c.loop-at.depth) w.in-Exit.is ∙ sym w.depth-is ] in
    record {
      walk = omega (arith, (s ∙ ap (λ n. 1 + run_len c.args.names.now n (mirror (take (c.loop-at.at - 1) c.args.events.now))) d), i.walk);
      within = omega (arith, i.within);
      inside = elim c.match-event.branch [ in-Enter w ↦ omega (arith, w.depth-is, i.inside) | in-Exit w ↦ omega (arith, w.depth-is, i.inside) ];
    }
