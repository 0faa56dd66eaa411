use Rattle.std.proofs.Common.{◌≡◌, ◌≤◌, ◌*◌, ◌-◌, ◌/◌, take, drop, subst, sym, arith}
use Rattle.mddocument_editing.specs.Listed.{AreSums, block}
use Rattle.mddocument_editing.proofs.ListSums.{block-next, front-split}
use Rattle.mddocument_editing.proofs.list.sums_in_front.Goals as goal

pub loop-number-preserved : goal.loop-number-preserved
loop-number-preserved g c =
    let xs = c.args.sections.now in
    let i = c.loop-number.number in
    record {
      sums = subst (λ ys. AreSums ys c.plus-sums.result) (sym (block-next xs i))
          (c.plus-sums.ensures (take (256 * i) xs) (block i xs) c.loop-number.invariant.sums (c.requires.blocks.each i _ (omega (arith, c.loop-number-test.true, c.requires.within, c.requires.blocks.all))));
      turns = omega (arith, c.loop-number.invariant.turns, c.add_one.ensures);
    }

pub returns-clause-sums : goal.returns-clause-sums
returns-clause-sums g c =
    let xs = c.args.sections.now in
    let section = c.args.section in
    let first = section / 256 * 256 in
    let end : 256 * c.loop-number.number ≡ first = omega (arith, c.loop-number-test.false, c.loop-number.auto.number-end) in
    let before : first ≤ section = omega arith in
    subst (λ ys. AreSums ys c.plus.result) (sym (front-split xs first section before))
    (c.plus.ensures (take first xs) (take (section - first) (drop first xs)) (subst (λ n. AreSums (take n xs) c.loop-number.sums) end c.loop-number.invariant.sums) c.sums_of.ensures.sums)
