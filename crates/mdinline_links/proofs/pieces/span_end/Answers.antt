use Rattle.std.proofs.Common.{◌≡◌, ◌+◌, ◌==◌, ◌∷◌, ◌++◌, true, false, ap, ◌∙◌, sym, arith, add-one, drop}
use Rattle.std.proofs.Math.Seq.{drop-cons}
use Rattle.std.proofs.lemmas.Bool.Decides.{nat_tests}
use Rattle.std.specs.List.{between}
use Rattle.std.specs.Prelude.{slice_index_or}
use Rattle.mdinline_emphasis.specs.Runs.{depth_after}
use Rattle.mdinline_links.specs.Linked.{span_at}
use Rattle.mdinline_links.proofs.Cuts.{cut-ends, cut-more, depth-grows, no_event}
use Rattle.mdinline_links.proofs.pieces.span_end.Goals as goal

pub returns-then-depth-eq0-clause-span : goal.returns-then-depth-eq0-clause-span
returns-then-depth-eq0-clause-span g c =
    let es = c.args.events.now in
    let i = c.loop-next.next in
    let e = slice_index_or es i no_event in
    let here : drop i es ≡ e ∷ drop (i + 1) es = drop-cons es i no_event c.loop-next-test.true ∙ ap (λ n. e ∷ drop n es) (sym (add-one i)) in
    let ends : (depth_after e.kind c.loop-next.depth == 0) ≡ true = ap (λ n. n == 0) (sym c.depth_after-depth.ensures ∙ c.if-depth-eq0.true) in
    cut-ends es c.args.from i c.loop-next.depth e c.loop-next.invariant.0 c.loop-next-test.true here c.loop-next.invariant.4 ends

pub loop-next-preserved : goal.loop-next-preserved
loop-next-preserved g c =
    let es = c.args.events.now in
    let i = c.loop-next.next in
    let e = slice_index_or es i no_event in
    let here : drop i es ≡ e ∷ drop (i + 1) es = drop-cons es i no_event c.loop-next-test.true ∙ ap (λ n. e ∷ drop n es) (sym (add-one i)) in
    let is = c.depth_after-depth.ensures in
    let open_yet = c.if-depth-eq0.false in
    let more : (depth_after e.kind c.loop-next.depth == 0) ≡ false = ap (λ n. n == 0) (sym is) ∙ grind (arith, nat_tests, open_yet) in
    let grows = depth-grows e.kind c.loop-next.depth in
    let order = c.loop-next.invariant.0 in
    let low = c.loop-next.invariant.2 in
    let one = c.add_one.ensures in
    let so_far = c.loop-next.invariant.3 in
    let inside = c.loop-next-test.true in (
      omega (arith, order),
      omega (arith, inside),
      omega (arith, is, grows, low),
      omega (arith, one, so_far),
      cut-more es c.args.from i c.loop-next.depth e order inside here c.loop-next.invariant.4 more
          ∙ ap (λ n. let p = span_at n (drop (i + 1) es) in (between c.args.from (i + 1) es ++ p.0, p.1)) (sym is),
    )
