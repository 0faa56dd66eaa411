use Rattle.std.proofs.Common.{◌<◌, ◌∷◌, [], length, take, subst, sym, arith}
use Rattle.std.specs.List.{sum_by}
use Rattle.mddocument_editing.specs.Listed.{AreSums, size_of}
use Rattle.mddocument_editing.proofs.SectionFronts.{take-next}
use Rattle.mddocument_editing.proofs.ListSums.{size-one, still-front, then-behind}
use Rattle.mddocument_editing.proofs.list.section_in.Goals as goal

pub loop-index-preserved : goal.loop-index-preserved
loop-index-preserved g c =
    let xs = c.args.sections.now in
    let i = c.loop-index.index in
    let p = c.args.is_line in
    let v = c.loop-index.invariant in
    let x = c.index-sections-index.result in
    let lt : i < length xs = omega (arith, c.loop-index-test.true, c.min.ensures, c.block_in-block.ensures.within) in
    let next = take-next xs i x lt c.index-sections-index.is in
    let both = c.with_one-front.ensures (take i xs) v.sums in
    record {
      order = omega (arith, v.order);
      within = omega (arith, c.loop-index-test.true);
      sums = subst (λ ys. AreSums ys c.with_one-front.result) (sym next) both;
      start = still-front p (take i xs) (x ∷ []) c.loop-index.front c.size_of-size.result c.args.place v.sums v.start c.with_one-front.result both (omega (arith, c.size_of-size.ensures, size-one p x)) c.ranges.place.fits
          (omega (arith, c.if-place-part.false, c.part.ensures));
      turns = omega (arith, v.turns, v.order, c.add_one.ensures);
    }

pub returns-then-place-part-clause-end : goal.returns-then-place-part-clause-end
returns-then-place-part-clause-end g c more =
    let xs = c.args.sections.now in
    let i = c.loop-index.index in
    let p = c.args.is_line in
    let v = c.loop-index.invariant in
    let x = c.index-sections-index.result in
    let lt : i < length xs = omega (arith, c.loop-index-test.true, c.min.ensures, c.block_in-block.ensures.within) in
    let next = take-next xs i x lt c.index-sections-index.is in
    subst (λ ys. c.args.place < sum_by (size_of p) ys) (sym next)
    (then-behind p (take i xs) (x ∷ []) c.loop-index.front c.size_of-size.result c.args.place v.sums v.start (omega (arith, c.size_of-size.ensures, size-one p x)) (omega (arith, c.if-place-part.true, c.part.ensures)))
