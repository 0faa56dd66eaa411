use Rattle.std.proofs.Common.{◌-◌, ◌<◌, ◌≤◌, List, arith, drop, length, subst, ℕ}
use Rattle.std.proofs.lemmas.List.{length-drop, take_all}
use Rattle.mddocument_editing.specs.FirstRest.{IsFirstRest}
use Rattle.mddocument_sinks.proofs.Seams.{seam-next}
use Rattle.mddocument_sinks.proofs.pieces.piece_end.Goals as goal

pub loop-end-preserved : goal.loop-end-preserved
loop-end-preserved c =
    let options = c.args.options.now in
    let bytes = c.args.bytes.now in
    let end = c.loop-end.end in
    let size = c.in_ok-size.size in
    let inside : end < length bytes = omega (arith, c.loop-end-test.true, c.least_end-least.ensures.within) in
    let most : length (drop end bytes) ≤ length bytes - end = omega (arith, length-drop end bytes) in
    let first = subst (λ (left : List ℕ). IsFirstRest options left size) (take_all (length bytes - end) (drop end bytes) most) c.in_ok-size.ensures in
    record {
      order = omega (arith, c.loop-end.invariant.order);
      seam = seam-next options bytes end size c.loop-end.invariant.seam inside first;
    }
