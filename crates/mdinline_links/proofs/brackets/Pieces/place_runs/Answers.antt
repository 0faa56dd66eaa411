use Rattle.std.proofs.Common.{◌≡◌, ◌<◌, ◌≤◌, ◌∷◌, [], ◌++◌, ◌∙◌, ap, arith, drop, length, length-append, rules, sym, take}
use Rattle.std.proofs.lemmas.List.{take-append-le}
use Rattle.mdinline_links.proofs.Places.{placed-less}
use Rattle.mdinline_links.specs.Laid.{placed_at}
use Rattle.mdinline_links.proofs.brackets.Pieces.place_runs.Goals as goal

pub loop-turns-preserved : goal.loop-turns-preserved
loop-turns-preserved g c =
    let from = c.args.from in
    let old = c.loop-turns.self in
    let kept = c.loop-turns.invariant in
    let ds = c.pop.new.self.items in
    let d = c.in-Some.run' in
    let os = c.pop-in-loop-turns.new.self.items in
    let o = c.in-Some-pop.owner in
    let runs : old.runs.items ≡ ds ++ d ∷ [] = c.in-Some.ensures.items in
    let owners : old.owners.items ≡ os ++ o ∷ [] = c.in-Some-pop.ensures.items in
    let inside : from < length old.runs.items = search rules in
    let a = ap length runs ∙ length-append ds (d ∷ []) in
    let b = ap length owners ∙ length-append os (o ∷ []) in
    let same = kept.0 in
    let many : length os ≡ length ds = omega (arith, a, b, same) in
    let low : from ≤ length ds = omega (arith, a, inside) in
    let low' : from ≤ length os = omega (arith, low, many) in (
      many,
      kept.1,
      sym (take-append-le from ds (d ∷ []) low) ∙ ap (take from) (sym runs) ∙ kept.2,
      sym (take-append-le from os (o ∷ []) low') ∙ ap (take from) (sym owners) ∙ kept.3,
      ap (λ ps. placed_at ps (drop from os) (drop from ds)) c.set_fate.ensures
          ∙ sym (placed-less old.pieces.items from os o ds d many low)
          ∙ ap (λ ns. placed_at old.pieces.items (drop from ns) (drop from (ds ++ d ∷ []))) (sym owners)
          ∙ ap (λ xs. placed_at old.pieces.items (drop from old.owners.items) (drop from xs)) (sym runs)
          ∙ kept.4,
      (let one = c.add_one.ensures in let so_far = kept.5 in omega (arith, a, one, so_far)),
    )
